-- Each line of a written text is that of one print, and a line of octets that of a PDU.
use Rattle.std.proofs.Common.{◌≡◌, ℕ, Bool, true, false, List, [], ◌∷◌, ◌++◌, Option, Some, None, refl, sym, ap, subst, ◌∙◌, append_assoc, append-nil, inl}
use Rattle.std.proofs.Common.{inr, arith}
use Rattle.std.specs.Prelude.{codes, ◌==◌, if◌then◌else◌}
use Rattle.std.specs.Fmt.{decimal}
use Rattle.std.proofs.lemmas.List.{append_cancel_right}
use Rattle.std.proofs.lemmas.List.Elements.{All-from_recursion}
use Rattle.hex.specs.Hex.{encode_lower}
use Rattle.mc_model.specs.synod.Lists.{In}
use Rattle.pdu_bodies.specs.declared.pdu.Pdu.{Pdu}
use Rattle.pdu_codec.specs.Pdu.{octets_of}
use Rattle.script_lines.specs.Lines.{IsOneLine, lines_of, onto_first}
use Rattle.script_lines.proofs.LineLemmas.{lines_of-next}
use Rattle.script_text.specs.Laws.{pdu_in}
use Rattle.script_text.specs.Prints.{AtOnce, Declined, Delivers, Gone, Late, Print, Reports, Ungranted, gone_line, octets_line, report_pdu}
use Rattle.script_text.specs.Prints.{At, Refuses, StopsSettling, WorldPrint, world_line, world_text}
use Rattle.octet_laws.specs.Tellings.{IsPduLine}
use Rattle.octet_laws.proofs.Words.{IsFrontRead, Lacks, both_lack, cons_first, decimal_lacks, decoded, hex_lacks_feed, split, tests_lack}

abbrev pub feed : List ℕ
feed = 10 ∷ []

-- ---- what is printed is one line

record HasLine (text : List ℕ) : Type 0 where
  line : List ℕ
  written : text ≡ line ++ feed
  one : Lacks 10 line

-- four parts behind a first word, and what stands behind them
abbrev parted : List ℕ → ℕ → ℕ → List ℕ
parted first node session = first ++ decimal node ++ codes " " ++ decimal session

parted_lack : (first : List ℕ) → Lacks 10 first → (node session : ℕ) → Lacks 10 (parted first node session)
parted_lack first none node session =
    both_lack 10 (first ++ decimal node ++ codes " ") (decimal session)
    (both_lack 10 (first ++ decimal node) (codes " ")
    (both_lack 10 first (decimal node) none (decimal_lacks 10 (omega arith) node)) (tests_lack 10 (codes " ") refl))
    (decimal_lacks 10 (omega arith) session)

parted_is : (first : List ℕ) (node session : ℕ) (rest : List ℕ) → parted first node session ++ codes " " ++ rest ≡
    first ++ (decimal node ++ (32 ∷ (decimal session ++ (32 ∷ rest))))
parted_is first node session rest =
    append_assoc (parted first node session) (codes " ") rest
    ∙ append_assoc (first ++ decimal node ++ codes " ") (decimal session) (32 ∷ rest)
    ∙ append_assoc (first ++ decimal node) (codes " ") (decimal session ++ (32 ∷ rest))
    ∙ append_assoc first (decimal node) (32 ∷ (decimal session ++ (32 ∷ rest)))

octets_has : (node session : ℕ) (octets : List ℕ) → HasLine (octets_line node session octets)
octets_has node session octets = record {
  line = parted (codes "pdu ") node session ++ codes " " ++ encode_lower octets;
  written = refl;
  one = both_lack 10 (parted (codes "pdu ") node session ++ codes " ") (encode_lower octets)
      (both_lack 10 (parted (codes "pdu ") node session) (codes " ") (parted_lack (codes "pdu ") (tests_lack 10 (codes "pdu ") refl) node session)
      (tests_lack 10 (codes " ") refl))
      (hex_lacks_feed octets);
}

numbered_has : (front : List ℕ) → Lacks 10 front → (number : ℕ) → HasLine (front ++ decimal number ++ feed)
numbered_has front none number =
    record { line = front ++ decimal number; written = refl; one = both_lack 10 front (decimal number) none (decimal_lacks 10 (omega arith) number) }

gone_has : (node session : ℕ) → HasLine (gone_line node session)
gone_has node session =
    record { line = parted (codes "gone ") node session; written = refl; one = parted_lack (codes "gone ") (tests_lack 10 (codes "gone ") refl) node session }

unsettled_has : HasLine (codes "unsettled" ++ feed)
unsettled_has = record { line = codes "unsettled"; written = refl; one = tests_lack 10 (codes "unsettled") refl }

has_line : (print : WorldPrint) → HasLine (world_line print)
has_line (At node (AtOnce session pdu)) = octets_has node session (octets_of pdu)
has_line (At node (Late session id pdu)) = octets_has node session (octets_of pdu)
has_line (At node (Delivers session pdu)) = octets_has node session (octets_of pdu)
has_line (At node (Reports session sequence optional report)) = octets_has node session (octets_of (report_pdu sequence optional report))
has_line (At node (Gone session)) = gone_has node session
has_line (At node (Declined number)) = numbered_has (codes "refused ") (tests_lack 10 (codes "refused ") refl) number
has_line (At node (Ungranted reason)) = numbered_has (codes "refused 3 ") (tests_lack 10 (codes "refused 3 ") refl) reason
has_line (Refuses number) = numbered_has (codes "refused ") (tests_lack 10 (codes "refused ") refl) number
has_line StopsSettling = unsettled_has

-- ---- each line is that of a print

pub record IsLineOf (prints : List WorldPrint) (line : List ℕ) : Type 0 where
  pub print : WorldPrint
  pub among : In print prints
  pub written : world_line print ≡ line ++ feed

lines_then : (first : WorldPrint) (prints : List WorldPrint) → lines_of (world_text (first ∷ prints)) ≡ (has_line first).line ∷ lines_of (world_text prints)
lines_then first prints =
    let it = has_line first in
    let one : IsOneLine it.line = All-from_recursion (λ (octet : ℕ). octet ≡ 10 → ⊥) it.line it.one in
    ap lines_of (ap (λ (text : List ℕ). text ++ world_text prints) it.written ∙ append_assoc it.line feed (world_text prints))
    ∙ lines_of-next it.line (world_text prints) one

-- the line of a session that is gone is written
pub gone_written : (prints : List WorldPrint) (node session : ℕ) → In (At node (Gone session)) prints →
    In (codes "gone " ++ decimal node ++ codes " " ++ decimal session) (lines_of (world_text prints))
unfolding has_line gone_has
gone_written [] node session among = absurd among
gone_written (first ∷ prints) node session (inl same) =
    subst (In _) (sym (lines_then first prints)) (inl (ap (λ (p : WorldPrint). (has_line p).line) same))
gone_written (first ∷ prints) node session (inr later) = subst (In _) (sym (lines_then first prints)) (inr (gone_written prints node session later))

pub line_printed : (prints : List WorldPrint) (line : List ℕ) → In line (lines_of (world_text prints)) → IsLineOf prints line
line_printed [] line among = absurd among
line_printed (first ∷ prints) line among =
    elim (subst (In line) (lines_then first prints) among) [
      | inl same ↦ record { print = first; among = inl refl; written = (has_line first).written ∙ ap (λ (l : List ℕ). l ++ feed) (sym same) }
      | inr later ↦ (let rest = line_printed prints line later in record { print = rest.print; among = inr rest.among; written = rest.written })
    ]

-- ---- the lines of the first octets of a text

-- each line is the front of one
abbrev AreFronts : List (List ℕ) → List (List ℕ) → Type 0
AreFronts [] wholes = Unit {0}
AreFronts (line ∷ lines) [] = ⊥
AreFronts (line ∷ lines) (whole ∷ wholes) = ((more : List ℕ) × (whole ≡ line ++ more)) × AreFronts lines wholes

onto_fronts : (octet : ℕ) (lines wholes : List (List ℕ)) → AreFronts lines wholes → AreFronts (onto_first octet lines) (onto_first octet wholes)
onto_fronts octet [] [] fronts = (([], refl), tt)
onto_fronts octet [] (whole ∷ wholes) fronts = ((whole, refl), tt)
onto_fronts octet (line ∷ lines) [] fronts = absurd fronts
onto_fronts octet (line ∷ lines) (whole ∷ wholes) fronts = ((fronts.0.0, ap (λ (text : List ℕ). octet ∷ text) fronts.0.1), fronts.1)

lines_are_fronts : (front later : List ℕ) → AreFronts (lines_of front) (lines_of (front ++ later))
lines_are_fronts [] later = tt
lines_are_fronts (octet ∷ front) later = by_test (octet == 10) (lines_are_fronts front later)
  where
    by_test : (ends : Bool) → AreFronts (lines_of front) (lines_of (front ++ later)) →
        AreFronts (if ends then [] ∷ lines_of front else onto_first octet (lines_of front))
        (if ends then [] ∷ lines_of (front ++ later) else onto_first octet (lines_of (front ++ later)))
    by_test true fronts = (([], refl), fronts)
    by_test false fronts = onto_fronts octet (lines_of front) (lines_of (front ++ later)) fronts

record IsFrontAmong (lines : List (List ℕ)) (line : List ℕ) : Type 0 where
  whole : List ℕ
  more : List ℕ
  among : In whole lines
  is : whole ≡ line ++ more

front_among : (lines wholes : List (List ℕ)) → AreFronts lines wholes → (line : List ℕ) → In line lines → IsFrontAmong wholes line
front_among [] wholes fronts line among = absurd among
front_among (first ∷ lines) [] fronts line among = absurd fronts
front_among (first ∷ lines) (whole ∷ wholes) fronts line (inl same) =
    record { whole = whole; more = fronts.0.0; among = inl refl; is = fronts.0.1 ∙ ap (λ (l : List ℕ). l ++ fronts.0.0) (sym same) }
front_among (first ∷ lines) (whole ∷ wholes) fronts line (inr later) =
    let it = front_among lines wholes fronts.1 line later in record { whole = it.whole; more = it.more; among = inr it.among; is = it.is }

-- a line of the first octets of a text is the front of that of a print
pub record IsFrontOfLine (prints : List WorldPrint) (line : List ℕ) : Type 0 where
  pub print : WorldPrint
  pub more : List ℕ
  pub among : In print prints
  pub written : world_line print ≡ line ++ more ++ feed

pub front_printed : (prints : List WorldPrint) (front later line : List ℕ) → front ++ later ≡ world_text prints → In line (lines_of front) →
    IsFrontOfLine prints line
front_printed prints front later line is among =
    let it = front_among (lines_of front) (lines_of (front ++ later)) (lines_are_fronts front later) line among in
    let whole = line_printed prints it.whole (subst (λ (text : List ℕ). In it.whole (lines_of text)) is it.among) in
    record { print = whole.print; more = it.more; among = whole.among; written = whole.written ∙ ap (λ (l : List ℕ). l ++ feed) it.is }

-- of two lines one is that of a print, and the one behind it that of a print behind that
pub record AreFrontsOfLines (prints : List WorldPrint) (one other : List ℕ) : Type 0 where
  pub before : List WorldPrint
  pub first : WorldPrint
  pub rest : List WorldPrint
  pub prints_are : prints ≡ before ++ first ∷ rest
  pub more : List ℕ
  pub written : world_line first ≡ one ++ more ++ feed
  pub second : IsFrontOfLine rest other

fronts_printed : (prints : List WorldPrint) (before : List (List ℕ)) (one : List ℕ) (later : List (List ℕ)) (other : List ℕ) →
    AreFronts (before ++ one ∷ later) (lines_of (world_text prints)) → In other later → AreFrontsOfLines prints one other
fronts_printed [] [] one later other fronts among = absurd fronts
fronts_printed [] (line ∷ before) one later other fronts among = absurd fronts
fronts_printed (first ∷ prints) [] one later other fronts among =
    let both = subst (AreFronts (one ∷ later)) (lines_then first prints) fronts in
    let it = front_among later (lines_of (world_text prints)) both.1 other among in
    let whole = line_printed prints it.whole it.among in
    record {
      before = [];
      first = first;
      rest = prints;
      prints_are = refl;
      more = both.0.0;
      written = (has_line first).written ∙ ap (λ (l : List ℕ). l ++ feed) both.0.1;
      second = record { print = whole.print; more = it.more; among = whole.among; written = whole.written ∙ ap (λ (l : List ℕ). l ++ feed) it.is };
    }
fronts_printed (first ∷ prints) (line ∷ before) one later other fronts among =
    let both = subst (AreFronts (line ∷ (before ++ one ∷ later))) (lines_then first prints) fronts in
    let it = fronts_printed prints before one later other both.1 among in
    record {
      before = first ∷ it.before;
      first = it.first;
      rest = it.rest;
      prints_are = ap (λ (ps : List WorldPrint). first ∷ ps) it.prints_are;
      more = it.more;
      written = it.written;
      second = it.second;
    }

pub both_printed : (prints : List WorldPrint) (front later : List ℕ) → front ++ later ≡ world_text prints → (before : List (List ℕ)) (one : List ℕ)
    (rest : List (List ℕ)) (other : List ℕ) → lines_of front ≡ before ++ one ∷ rest → In other rest → AreFrontsOfLines prints one other
both_printed prints front later is before one rest other lines among =
    fronts_printed prints before one rest other
    (subst (λ (text : List ℕ). AreFronts (before ++ one ∷ rest) (lines_of text)) is
    (subst (λ (ls : List (List ℕ)). AreFronts ls (lines_of (front ++ later))) lines (lines_are_fronts front later))) among

-- ---- a line of octets is that of a PDU

-- the line is of this node and session, and its octets are read of the front of these
record IsBack (node session : ℕ) (written octets line : List ℕ) (said : IsPduLine line octets) : Type 0 where
  node_is : decimal node ≡ decimal said.node
  session_is : decimal session ≡ decimal said.session
  front : IsFrontRead written octets

octets_back : (node session : ℕ) (written line more octets : List ℕ) → octets_line node session written ≡ line ++ more ++ feed →
    (said : IsPduLine line octets) → IsBack node session written octets line said
octets_back node session written line more octets is said =
    let same = append_cancel_right (parted (codes "pdu ") node session ++ codes " " ++ encode_lower written) (line ++ more) feed is
    ∙ ap (λ (l : List ℕ). l ++ more) said.line_is
    ∙ append_assoc (parted (codes "pdu ") said.node said.session ++ codes " ") said.digits more in
    let behind = after_pdu _ _
    (sym (parted_is (codes "pdu ") node session (encode_lower written)) ∙ same ∙ parted_is (codes "pdu ") said.node said.session (said.digits ++ more)) in
    let first = split 32 (decimal node) (decimal said.node) _ _ (decimal_lacks 32 (omega arith) node) (decimal_lacks 32 (omega arith) said.node) behind in
    let second = split 32 (decimal session) (decimal said.session) _ _ (decimal_lacks 32 (omega arith) session)
    (decimal_lacks 32 (omega arith) said.session) first.rests in
    record { node_is = first.words; session_is = second.words; front = decoded said.digits more written octets (sym second.rests) said.hex }
  where
    after_pdu : (one other : List ℕ) → 112 ∷ 100 ∷ 117 ∷ 32 ∷ one ≡ 112 ∷ 100 ∷ 117 ∷ 32 ∷ other → one ≡ other
    after_pdu one other is = cc

-- the session on which a PDU goes out
abbrev pub session_of : Print → Option ℕ
session_of (AtOnce session pdu) = Some session
session_of (Late session id pdu) = Some session
session_of (Delivers session pdu) = Some session
session_of (Reports session sequence optional report) = Some session
session_of (Gone session) = None
session_of (Declined number) = None
session_of (Ungranted reason) = None

-- the PDU that a print brings
pub record BringsPdu (print : WorldPrint) (octets line : List ℕ) (said : IsPduLine line octets) : Type 0 where
  pub node : ℕ
  pub printed : Print
  pub pdu : Pdu
  pub session : ℕ
  pub print_is : print ≡ At node printed
  pub pdu_is : pdu_in printed ≡ Some pdu
  pub session_is : session_of printed ≡ Some session
  pub octets_are : IsFrontRead (octets_of pdu) octets
  pub node_text : decimal node ≡ decimal said.node
  pub session_text : decimal session ≡ decimal said.session

pub pdu_printed : (print : WorldPrint) (line more octets : List ℕ) → world_line print ≡ line ++ more ++ feed → (said : IsPduLine line octets) →
    BringsPdu print octets line said
pdu_printed print line more octets is said = by_print print is
  where
    brings : (node session : ℕ) (printed : Print) (pdu : Pdu) → pdu_in printed ≡ Some pdu → session_of printed ≡ Some session →
        octets_line node session (octets_of pdu) ≡ line ++ more ++ feed → BringsPdu (At node printed) octets line said
    brings node session printed pdu pdu_is session_is is =
        let back = octets_back node session (octets_of pdu) line more octets is said in
        record {
          node = node;
          printed = printed;
          pdu = pdu;
          session = session;
          print_is = refl;
          pdu_is = pdu_is;
          session_is = session_is;
          octets_are = back.front;
          node_text = back.node_is;
          session_text = back.session_is;
        }

    -- a line that begins otherwise is none of octets
    begins : (first : ℕ) (text : List ℕ) → first ∷ text ≡ line ++ more ++ feed → first ≡ 112
    begins first text is = cons_first first 112 text _ (is ∙ ap (λ (l : List ℕ). l ++ more ++ feed) said.line_is)

    by_print : (print : WorldPrint) → world_line print ≡ line ++ more ++ feed → BringsPdu print octets line said
    by_print (At node (AtOnce session pdu)) is = brings node session (AtOnce session pdu) pdu refl refl is
    by_print (At node (Late session id pdu)) is = brings node session (Late session id pdu) pdu refl refl is
    by_print (At node (Delivers session pdu)) is = brings node session (Delivers session pdu) pdu refl refl is
    by_print (At node (Reports session sequence optional report)) is =
        brings node session (Reports session sequence optional report) (report_pdu sequence optional report) refl refl is
    by_print (At node (Gone session)) is = absurd (let same = begins 103 _ is in omega (arith, same))
    by_print (At node (Declined number)) is = absurd (let same = begins 114 _ is in omega (arith, same))
    by_print (At node (Ungranted reason)) is = absurd (let same = begins 114 _ is in omega (arith, same))
    by_print (Refuses number) is = absurd (let same = begins 114 _ is in omega (arith, same))
    by_print StopsSettling is = absurd (let same = begins 117 _ is in omega (arith, same))

-- a line of octets that is written is that of the PDU of a print
pub record IsBrought (prints : List WorldPrint) (line octets : List ℕ) (said : IsPduLine line octets) : Type 0 where
  pub print : WorldPrint
  pub among : In print prints
  pub brings : BringsPdu print octets line said

pub brought_by : (prints : List WorldPrint) (line octets : List ℕ) → In line (lines_of (world_text prints)) → (said : IsPduLine line octets) →
    IsBrought prints line octets said
brought_by prints line octets among said =
    let it = line_printed prints line among in
    record {
      print = it.print;
      among = it.among;
      brings = pdu_printed it.print line [] octets (it.written ∙ ap (λ (l : List ℕ). l ++ feed) (sym (append-nil line))) said;
    }

-- ---- a line that a session is gone, or that something is refused

pub record IsGoneTold (prints : List WorldPrint) (node session : ℕ) : Type 0 where
  pub other : ℕ
  pub number : ℕ
  pub among : In (At other (Gone number)) prints
  pub node_is : decimal other ≡ decimal node
  pub session_is : decimal number ≡ decimal session

pub gone_told : (prints : List WorldPrint) (node session : ℕ) →
    In (codes "gone " ++ decimal node ++ codes " " ++ decimal session) (lines_of (world_text prints)) → IsGoneTold prints node session
gone_told prints node session among =
    let it = line_printed prints _ among in by_print it.print it.among it.written
  where
    line : List ℕ
    line = codes "gone " ++ decimal node ++ codes " " ++ decimal session

    begins : (first : ℕ) (text : List ℕ) → first ∷ text ≡ line ++ feed → first ≡ 103
    begins first text is = cons_first first 103 text _ is

    told : (other number : ℕ) → In (At other (Gone number)) prints → parted (codes "gone ") other number ++ feed ≡ line ++ feed → IsGoneTold prints node session
    told other number among is =
        let behind = after_gone _ _ (sym (gone_parts other number) ∙ is ∙ gone_parts node session) in
        let first = split 32 (decimal other) (decimal node) _ _ (decimal_lacks 32 (omega arith) other) (decimal_lacks 32 (omega arith) node) behind in
        record { other = other; number = number; among = among; node_is = first.words; session_is = append_cancel_right _ _ feed first.rests }
      where
        after_gone : (one other : List ℕ) → 103 ∷ 111 ∷ 110 ∷ 101 ∷ 32 ∷ one ≡ 103 ∷ 111 ∷ 110 ∷ 101 ∷ 32 ∷ other → one ≡ other
        after_gone one other is = cc

        gone_parts : (n s : ℕ) → parted (codes "gone ") n s ++ feed ≡ codes "gone " ++ (decimal n ++ (32 ∷ (decimal s ++ feed)))
        gone_parts n s =
            append_assoc (codes "gone " ++ decimal n ++ codes " ") (decimal s) feed
            ∙ append_assoc (codes "gone " ++ decimal n) (codes " ") (decimal s ++ feed)
            ∙ append_assoc (codes "gone ") (decimal n) (32 ∷ (decimal s ++ feed))

    by_print : (print : WorldPrint) → In print prints → world_line print ≡ line ++ feed → IsGoneTold prints node session
    by_print (At other (Gone number)) among is = told other number among is
    by_print (At other (AtOnce number pdu)) among is = absurd (let same = begins 112 _ is in omega (arith, same))
    by_print (At other (Late number id pdu)) among is = absurd (let same = begins 112 _ is in omega (arith, same))
    by_print (At other (Delivers number pdu)) among is = absurd (let same = begins 112 _ is in omega (arith, same))
    by_print (At other (Reports number sequence optional report)) among is = absurd (let same = begins 112 _ is in omega (arith, same))
    by_print (At other (Declined number)) among is = absurd (let same = begins 114 _ is in omega (arith, same))
    by_print (At other (Ungranted reason)) among is = absurd (let same = begins 114 _ is in omega (arith, same))
    by_print (Refuses number) among is = absurd (let same = begins 114 _ is in omega (arith, same))
    by_print StopsSettling among is = absurd (let same = begins 117 _ is in omega (arith, same))

-- it tells of a refusal
abbrev pub IsRefusal : WorldPrint → Type 0
IsRefusal (At node (AtOnce session pdu)) = ⊥
IsRefusal (At node (Late session id pdu)) = ⊥
IsRefusal (At node (Delivers session pdu)) = ⊥
IsRefusal (At node (Reports session sequence optional report)) = ⊥
IsRefusal (At node (Gone session)) = ⊥
IsRefusal (At node (Declined number)) = Unit {0}
IsRefusal (At node (Ungranted reason)) = Unit {0}
IsRefusal (Refuses number) = Unit {0}
IsRefusal StopsSettling = ⊥

pub refused_told : (prints : List WorldPrint) → In (codes "refused 4") (lines_of (world_text prints)) → (print : WorldPrint) × In print prints × IsRefusal print
refused_told prints among =
    let it = line_printed prints (codes "refused 4") among in (it.print, it.among, by_print it.print it.written)
  where
    begins : (first : ℕ) (text : List ℕ) → first ∷ text ≡ codes "refused 4" ++ feed → first ≡ 114
    begins first text is = cons_first first 114 text _ is

    by_print : (print : WorldPrint) → world_line print ≡ codes "refused 4" ++ feed → IsRefusal print
    by_print (At node (AtOnce session pdu)) is = (let same = begins 112 _ is in omega (arith, same))
    by_print (At node (Late session id pdu)) is = (let same = begins 112 _ is in omega (arith, same))
    by_print (At node (Delivers session pdu)) is = (let same = begins 112 _ is in omega (arith, same))
    by_print (At node (Reports session sequence optional report)) is = (let same = begins 112 _ is in omega (arith, same))
    by_print (At node (Gone session)) is = (let same = begins 103 _ is in omega (arith, same))
    by_print (At node (Declined number)) is = tt
    by_print (At node (Ungranted reason)) is = tt
    by_print (Refuses number) is = tt
    by_print StopsSettling is = (let same = begins 117 _ is in omega (arith, same))
