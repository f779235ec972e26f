-- How far a script has run, and what comes of the next line.
use Rattle.std.proofs.Common.{◌≡◌, ℕ, suc, ◌+◌, ◌*◌, ◌-◌, ◌<◌, ◌≤◌, List, [], ◌∷◌, ◌++◌, length, get_or, take, drop, Option, Some, None}
use Rattle.std.proofs.Common.{Result, Ok, Err, add-one, refl, sym, ap, subst, ◌∙◌, append_assoc, arith, inl, inr}
use Rattle.std.proofs.lemmas.Bool.{cases_lt}
use Rattle.std.proofs.lemmas.List.{append-nil, length-append, length-drop, length-take, get_or-take, take_all, take-append-drop}
use Rattle.std.proofs.lemmas.Option.{slice_get_within, get_or_from_slice_get}
use Rattle.std.proofs.Math.Seq.{take-append-add, take-suc}
use Rattle.std.specs.Prelude.{◌⊎◌}
use Rattle.std.specs.Result.{IsErrAnd}
use Rattle.std.specs.Io.KnownBytes.{Consumes, Appends, IsAtEnd}
use Rattle.octet_io.specs.Reads.{Reads, Ends, GoesOn, Stops, most_reads}
use Rattle.octet_io.specs.Writes.{Sends, SendsFront, Writes}
use Rattle.octet_io.proofs.KnownOctets.{appended_none, appended_on, consumed_none, consumed_on}
use Rattle.script_lines.specs.Lines.{NeedsMore, lines_of, BeginsWithLine, IsLastLine, IsOneLine, BeginsTooLong, LinesAreRead}
use Rattle.script_lines.specs.Finding.{Reaches, ReadsAsNeeded, held_before}
use Rattle.script_lines.specs.declared.buffer.Found.{Found}
use Rattle.script_lines.specs.declared.buffer.Found.TheVariants as found
use Rattle.std.proofs.lemmas.Grind.{flat_map-append}
use Rattle.script_text.specs.Settings.{script_settings}
use Rattle.script_text.specs.Prints.{world_line, world_text}
use Rattle.script_text.specs.Script.{Stage, Stepped, after, step_of, prints_from, bad_from, text_of, bad_line}
use Rattle.script_lines.specs.Said.{Said, said_of}
use Rattle.script_runner.specs.Outcome.{AreLines, StandsAt, IsRun, WritesLineAt, HasRead, IsInWork, IsWhole, IsDecided, StopsAt, StopsInLine}
use Rattle.script_runner.specs.Outcome.{StopsWriting, WantsMemory, IsOutcome}
use Rattle.script_runner.specs.declared.centre.Centre.{Centre}
use Rattle.script_runner.specs.declared.fault.ScriptFault.{ScriptFault}
use Rattle.script_runner.specs.declared.fault.ScriptFault.TheVariants.{BadLine, Read, Write, Memory}
use Rattle.script_runner.proofs.Steps.{SaysItsSpelling, step_of-none}

-- the text of lines from a stage on
abbrev pub text_from : Stage → List (List ℕ) → List ℕ
text_from stage lines = world_text (prints_from script_settings stage lines)

-- What whole lines that were done lead to: this stage, after so many lines.
pub record LeadsTo (done : List ℕ) (stage : Stage) (number : ℕ) : Type 0 where
  pub lines : AreLines done
  pub good : bad_line done ≡ None
  pub text_on : (more : List ℕ) → text_of (done ++ more) ≡ text_of done ++ text_from stage (lines_of more)
  pub bad_on : (more : List ℕ) → bad_line (done ++ more) ≡ bad_from script_settings stage (suc number) (lines_of more)

nothing_leads : LeadsTo [] None 0
unfolding prints_from bad_from
nothing_leads = record { lines = inl refl; good = refl; text_on = λ more. refl; bad_on = λ more. refl }

-- ---- reads, one part after another

module _ {R : Type 0} where
  goes_on_none : (old : Reads R) → GoesOn old old
  goes_on_none old = record { failures = refl; ends = refl }

  goes_on_on : (old mid new : Reads R) → GoesOn old mid → GoesOn mid new → GoesOn old new
  goes_on_on old mid new h k = record { failures = k.failures ∙ h.failures; ends = k.ends ∙ h.ends }

  ends_on : (old mid new : Reads R) → GoesOn old mid → Ends mid new → Ends old new
  ends_on old mid new h k = record { failures = k.failures ∙ h.failures; ends = k.ends ∙ ap (λ n. n + 1) h.ends }

  stops_on : (old mid new : Reads R) → GoesOn old mid → Stops mid new → Stops old new
  stops_on old mid new h k = record {
    failures = elim k.failures [
      | inl failed ↦ inl (failed ∙ ap (λ n. n + 1) h.failures)
      | inr made ↦ inr (made.0 ∙ h.failures, made.1)
    ];
    ends = k.ends ∙ h.ends;
  }

  reaches_on : (remaining : R → Option (List ℕ)) (f : Found) (old mid new : Reads R) → GoesOn old mid → Reaches remaining f mid new →
      Reaches remaining f old new
  reaches_on remaining (found.Line count) old mid new h k = goes_on_on old mid new h k
  reaches_on remaining (found.Last count) old mid new h k = (ends_on old mid new h k.0, k.1)
  reaches_on remaining found.TooLong old mid new h k = goes_on_on old mid new h k
  reaches_on remaining found.End old mid new h k = (ends_on old mid new h k.0, k.1)

-- ---- writes, one part after another

module _ {W : Type 0} (contents : W → Option (List ℕ)) where
  sends_none : (writer : Writes W) → Sends contents writer writer (text_of [])
  unfolding prints_from
  sends_none writer = record { appended = appended_none (contents writer.writer); failures = refl }

  sends_on : (old mid new : Writes W) (xs ys : List ℕ) → Sends contents old mid xs → Sends contents mid new ys → Sends contents old new (xs ++ ys)
  sends_on old mid new xs ys h k = record {
    appended = appended_on (contents old.writer) (contents mid.writer) (contents new.writer) xs ys h.appended k.appended;
    failures = k.failures ∙ h.failures;
  }

  sends_front_on : (old mid new : Writes W) (xs ys : List ℕ) (sent : ℕ) → Sends contents old mid xs → SendsFront contents mid new ys sent →
      SendsFront contents old new (xs ++ ys) (length xs + sent)
  sends_front_on old mid new xs ys sent h k = record {
    appended = subst (λ octets. Appends (contents old.writer) (contents new.writer) octets) (sym (take-append-add xs ys sent))
        (appended_on (contents old.writer) (contents mid.writer) (contents new.writer) xs (take sent ys) h.appended k.appended);
    within = let less = k.within in omega (arith, length-append xs ys);
    failures = elim k.failures [
      | inl failed ↦ inl (failed ∙ ap (λ n. n + 1) h.failures)
      | inr made ↦ inr (made.0 ∙ h.failures, made.1)
    ];
  }

-- ---- the first line of what is held

-- the first line of what is held, and of what follows, is bad
pub record BadFirst (held : List ℕ) (stage : Stage) (more : List ℕ) : Type 0 where
  pub line : List ℕ
  pub lines : List (List ℕ)
  pub first : lines_of (held ++ more) ≡ line ∷ lines
  pub bad : step_of script_settings stage line ≡ None

bad_found : (done held : List ℕ) (stage : Stage) (number : ℕ) (p : LeadsTo done stage number) (more : List ℕ)
    → BadFirst held stage more → bad_line ((done ++ held) ++ more) ≡ Some (suc number)
unfolding bad_from
bad_found done held stage number p more b =
    ap bad_line (append_assoc done held more) ∙ p.bad_on (held ++ more) ∙ ap (bad_from script_settings stage (suc number)) b.first
    ∙ ap (after (Some (suc number)) (λ stepped. bad_from script_settings stepped.next (suc (suc number)) b.lines)) b.bad

text_found : (done held : List ℕ) (stage : Stage) (number : ℕ) (p : LeadsTo done stage number) (more : List ℕ)
    → BadFirst held stage more → text_of ((done ++ held) ++ more) ≡ text_of done
unfolding prints_from
text_found done held stage number p more b =
    ap text_of (append_assoc done held more) ∙ p.text_on (held ++ more)
    ∙ ap (λ lines. text_of done ++ text_from stage lines) b.first
    ∙ ap (λ next. text_of done ++ world_text (after [] (λ stepped. stepped.prints ++ prints_from script_settings stepped.next b.lines) next)) b.bad
    ∙ append-nil (text_of done)

decided_by : (done held : List ℕ) (stage : Stage) (number : ℕ) (p : LeadsTo done stage number)
    → ((more : List ℕ) → BadFirst held stage more) → IsDecided (done ++ held) (suc number)
decided_by done held stage number p b more =
    let read = done ++ held in
    let same : text_of read ≡ text_of done = ap text_of (sym (append-nil read)) ∙ text_found done held stage number p [] (b []) in
    (bad_found done held stage number p more (b more), text_found done held stage number p more (b more) ∙ sym same)

not_said : SaysItsSpelling → (line : List ℕ) (said : Option Said) → said_of line ≡ said → 20000 < length line → said ≡ None
not_said spelled line None e long = refl
not_said spelled line (Some said) e long = absurd (omega (arith, ((spelled line said).0 e).short))

-- a line that is too long is bad
too_long_first : LinesAreRead → SaysItsSpelling → (held : List ℕ) (stage : Stage) → BeginsTooLong held → (more : List ℕ) → BadFirst held stage more
too_long_first laws spelled held stage long more =
    let first = laws.too_long held more long in
    record {
      line = first.0;
      lines = first.1;
      first = first.2;
      bad = step_of-none stage first.0 (not_said spelled first.0 (said_of first.0) refl first.3);
    }

line_first : LinesAreRead → (held : List ℕ) (stage : Stage) (count : ℕ) → BeginsWithLine count held →
    step_of script_settings stage (take count held) ≡ None → (more : List ℕ) →
    BadFirst held stage more
line_first laws held stage count begins bad more = record {
  line = take count held;
  lines = lines_of (drop (count + 1) held ++ more);
  first = laws.begins count held more begins;
  bad = bad;
}

some_octets : (count : ℕ) (held : List ℕ) → IsLastLine count held → held ≡ [] → ⊥
some_octets count held last none = absurd (omega (arith, last.some, last.all, ap length none))

last_lines : LinesAreRead → (count : ℕ) (held : List ℕ) → IsLastLine count held → lines_of held ≡ held ∷ []
last_lines laws count held last = laws.last held (some_octets count held last) last.line

last_first : LinesAreRead → (held : List ℕ) (stage : Stage) (count : ℕ) → IsLastLine count held →
    step_of script_settings stage held ≡ None →
    BadFirst held stage []
last_first laws held stage count last bad = record {
  line = held;
  lines = [];
  first = ap lines_of (append-nil held) ∙ last_lines laws count held last;
  bad = bad;
}

-- ---- a good line

text_of_first : (stage : Stage) (line : List ℕ) (lines : List (List ℕ)) (done : Stepped) → step_of script_settings stage line ≡ Some done →
    text_from stage (line ∷ lines) ≡ world_text done.prints ++ text_from done.next lines
unfolding prints_from
text_of_first stage line lines done e =
    ap (λ next. world_text (after [] (λ d. d.prints ++ prints_from script_settings d.next lines) next)) e
    ∙ flat_map-append world_line done.prints (prints_from script_settings done.next lines)

bad_of_first : (stage : Stage) (number : ℕ) (line : List ℕ) (lines : List (List ℕ)) (done : Stepped) →
    step_of script_settings stage line ≡ Some done →
    bad_from script_settings stage number (line ∷ lines) ≡ bad_from script_settings done.next (suc number) lines
unfolding bad_from
bad_of_first stage number line lines done e = ap (after (Some number) (λ d. bad_from script_settings d.next (suc number) lines)) e

text_of_nothing : (stage : Stage) → text_from stage [] ≡ []
unfolding prints_from
text_of_nothing stage = refl

bad_of_nothing : (stage : Stage) (number : ℕ) → bad_from script_settings stage number [] ≡ None
unfolding bad_from
bad_of_nothing stage number = refl

-- the last line without a line feed, behind lines that were done
pub record EndsWell (done line : List ℕ) (stepped : Stepped) : Type 0 where
  pub good : bad_line (done ++ line) ≡ None
  pub text : text_of (done ++ line) ≡ text_of done ++ world_text stepped.prints

ends_well : LinesAreRead → (done line : List ℕ) (stage : Stage) (number count : ℕ) (stepped : Stepped) → LeadsTo done stage number → IsLastLine count line
    → step_of script_settings stage line ≡ Some stepped → EndsWell done line stepped
ends_well laws done line stage number count stepped p last step =
    let lines = last_lines laws count line last in
    record {
      good = p.bad_on line ∙ ap (bad_from script_settings stage (suc number)) lines ∙ bad_of_first stage (suc number) line [] stepped step
          ∙ bad_of_nothing stepped.next (suc (suc number));
      text = p.text_on line ∙ ap (λ ls. text_of done ++ text_from stage ls) lines
          ∙ ap (λ t. text_of done ++ t) (text_of_first stage line [] stepped step ∙ ap (λ t. world_text stepped.prints ++ t) (text_of_nothing stepped.next)
          ∙ append-nil (world_text stepped.prints));
    }

-- one more line and its line feed is done
pub record GoesOnWell (done line : List ℕ) (stepped : Stepped) (number : ℕ) : Type 0 where
  pub leads : LeadsTo (done ++ (line ++ 10 ∷ [])) stepped.next (number + 1)
  pub text : text_of (done ++ (line ++ 10 ∷ [])) ≡ text_of done ++ world_text stepped.prints

goes_on_well : LinesAreRead → (done line : List ℕ) (stage : Stage) (number : ℕ) (stepped : Stepped) → LeadsTo done stage number → IsOneLine line
    → step_of script_settings stage line ≡ Some stepped → GoesOnWell done line stepped number
goes_on_well laws done line stage number stepped p one step =
    let whole = line ++ 10 ∷ [] in
    let now = done ++ whole in
    let told = world_text stepped.prints in
    let next : (more : List ℕ) → lines_of (whole ++ more) ≡ line ∷ lines_of more = λ more. ap lines_of (append_assoc line (10 ∷ []) more) ∙ laws.next line
    more one in
    let text_next : (more : List ℕ) → text_of (now ++ more) ≡ (text_of done ++ told) ++ text_from stepped.next (lines_of more) =
    λ more. ap text_of (append_assoc done whole more) ∙ p.text_on (whole ++ more)
    ∙ ap (λ ls. text_of done ++ text_from stage ls) (next more)
    ∙ ap (λ t. text_of done ++ t) (text_of_first stage line (lines_of more) stepped step)
    ∙ sym (append_assoc (text_of done) told (text_from stepped.next (lines_of more))) in
    let bad_next : (more : List ℕ) → bad_line (now ++ more) ≡ bad_from script_settings stepped.next (suc (suc number)) (lines_of more) =
    λ more. ap bad_line (append_assoc done whole more) ∙ p.bad_on (whole ++ more)
    ∙ ap (bad_from script_settings stage (suc number)) (next more) ∙ bad_of_first stage (suc number) line (lines_of more) stepped step in
    let text_now : text_of now ≡ text_of done ++ told =
    ap text_of (sym (append-nil now)) ∙ text_next [] ∙ ap (λ t. (text_of done ++ told) ++ t) (text_of_nothing stepped.next)
    ∙ append-nil (text_of done ++ told) in
    let last_stage = stepped.next in
    record {
      leads = record {
        lines = inr (done ++ line, sym (append_assoc done line (10 ∷ [])));
        good = ap bad_line (sym (append-nil now)) ∙ bad_next [] ∙ bad_of_nothing stepped.next (suc (suc number));
        text_on = λ more. text_next more ∙ ap (λ t. t ++ text_from last_stage (lines_of more)) (sym text_now);
        bad_on = λ more. bad_next more ∙ ap (λ n. bad_from script_settings last_stage n (lines_of more)) (omega arith);
      };
      text = text_now;
    }

-- what is held begins with the line and its line feed
feed_behind : (count : ℕ) (octets : List ℕ) → BeginsWithLine count octets → take (count + 1) octets ≡ take count octets ++ 10 ∷ []
feed_behind count octets h =
    let within : count < length octets = slice_get_within octets count 10 h.feed in
    let feed : get_or octets count 0 ≡ 10 = get_or_from_slice_get octets count 10 0 h.feed in
    ap (λ n. take n octets) (add-one count) ∙ take-suc octets count 0 within ∙ ap (λ x. take count octets ++ x ∷ []) feed

parts : (count : ℕ) (octets : List ℕ) → BeginsWithLine count octets → octets ≡ (take count octets ++ 10 ∷ []) ++ drop (count + 1) octets
parts count octets h = sym (ap (λ xs. xs ++ drop (count + 1) octets) (sym (feed_behind count octets h)) ∙ take-append-drop (count + 1) octets)

pub within_held : (count : ℕ) (octets : List ℕ) → BeginsWithLine count octets → count + 1 ≤ length octets
within_held count octets h = let within : count < length octets = slice_get_within octets count 10 h.feed in omega arith

all_taken : (count : ℕ) (octets : List ℕ) → length octets ≡ count → take count octets ≡ octets
all_taken count octets e = take_all count octets (omega (arith, e))

-- the last read gave all that stands behind a whole line, if what stood before it needed more
came_behind : (count before : ℕ) (octets : List ℕ) → BeginsWithLine count octets → IsOneLine (take before octets) → before ≤ count
came_behind count before octets h one = elim (cases_lt count before) [
  | inl lt ↦ absurd (no_feed lt)
  | inr le ↦ le
]
  where
    no_feed : count < before → ⊥
    no_feed lt =
        let within : count < length octets = slice_get_within octets count 10 h.feed in
        let feed : get_or octets count 0 ≡ 10 = get_or_from_slice_get octets count 10 0 h.feed in
        one count 0 (omega (arith, length-take before octets)) (get_or-take before octets count 0 lt ∙ feed)

-- ---- how far a script has run

module _ {R W : Type 0} (remaining : R → Option (List ℕ)) (contents : W → Option (List ℕ)) where
  -- Whole lines were done, and what is held follows them; they lead to this stage.
  pub record Progress (old now : Reads R) (before after : Writes W) (held : List ℕ) (stage : Stage) (number : ℕ) : Type 0 where
    pub done : List ℕ
    pub read : HasRead remaining old now done held
    pub leads : LeadsTo done stage number
    pub text : Sends contents before after (text_of done)
    pub room : length held ≤ 20001
    pub fits : number + length held + 20002 * old.reads ≤ 20002 * now.reads
    pub few : number + length held ≤ 20002 * most_reads

  -- and the centre is as the world of that stage, and no read failed or told the end
  pub record HasRun (old now : Reads R) (before after : Writes W) (held : List ℕ) (centre : Option Centre) (number : ℕ) : Type 0 where
    pub stage : Stage
    pub stands : StandsAt centre stage
    pub progress : Progress old now before after held stage number
    pub goes_on : GoesOn old now

  has_read_nothing : (old : Reads R) → HasRead remaining old old [] []
  has_read_nothing old = record {
    consumed = consumed_none (remaining old.reader);
    lines = nothing_leads.lines;
    good = nothing_leads.good;
    needed = inr (refl, refl, refl);
  }

  pub started : (old : Reads R) (before : Writes W) (held : List ℕ) → held ≡ [] → HasRun old old before before held None 0
  started old before held none =
      let progress : Progress old old before before [] None 0 = record {
        done = [];
        read = has_read_nothing old;
        leads = nothing_leads;
        text = sends_none contents before;
        room = omega arith;
        fits = omega arith;
        few = omega arith;
      } in
      record {
        stage = None;
        stands = tt;
        progress = subst (λ held. Progress old old before before held None 0) (sym none) progress;
        goes_on = goes_on_none old;
      }

  -- ---- more is held

  still_needed : (old mid now : Reads R) (done held more : List ℕ) → NeedsMore (held_before held mid) ⊎ ((done ≡ []) × (held ≡ []) × (mid ≡ old))
      → ReadsAsNeeded held more mid now → NeedsMore (held_before more now) ⊎ ((done ≡ []) × (more ≡ []) × (now ≡ old))
  still_needed old mid now done held more needed (inr on) = inl on.needed
  still_needed old mid now done held more (inl needed) (inl same) =
      inl (subst (λ octets. NeedsMore (held_before octets now)) (sym same.0) (subst (λ reads. NeedsMore (held_before held reads)) (sym same.1) needed))
  still_needed old mid now done held more (inr none) (inl same) = inr (none.0, same.0 ∙ none.1, same.1 ∙ none.2)

  pub grown : (old mid now : Reads R) (before after : Writes W) (held more : List ℕ) (stage : Stage) (number : ℕ) (got : List ℕ)
      → Progress old mid before after held stage number → Consumes (remaining mid.reader) (remaining now.reader) got → more ≡ held ++ got
      → length more ≤ 20001 → ReadsAsNeeded held more mid now → Progress old now before after more stage number
  grown old mid now before after held more stage number got p took grew room needed =
      let all : (p.done ++ held) ++ got ≡ p.done ++ more = append_assoc p.done held got ∙ ap (λ t. p.done ++ t) (sym grew) in
      let read : HasRead remaining old now p.done more = record {
        consumed = subst (λ read. Consumes (remaining old.reader) (remaining now.reader) read) all
            (consumed_on (remaining old.reader) (remaining mid.reader) (remaining now.reader) (p.done ++ held) got p.read.consumed took);
        lines = p.read.lines;
        good = p.read.good;
        needed = still_needed old mid now p.done held more p.read.needed needed;
      } in
      record {
        done = p.done;
        read = read;
        leads = p.leads;
        text = p.text;
        room = room;
        fits = elim needed [
          | inl same ↦ omega (arith, p.fits, ap length same.0, ap (λ (r : Reads R). r.reads) same.1)
          | inr on ↦ omega (arith, p.fits, on.counted, room)
        ];
        few = elim needed [
          | inl same ↦ omega (arith, p.few, ap length same.0)
          | inr on ↦ omega (arith, p.fits, on.counted, on.most, room)
        ];
      }

  -- ---- the ends

  pub within_line : (old mid now : Reads R) (before after : Writes W) (held : List ℕ) (stage : Stage) (number : ℕ)
      → Progress old now before after held stage number → GoesOn old mid → NeedsMore held → Stops mid now → StopsInLine remaining contents old now before after
  within_line old mid now before after held stage number p going more stops = record {
    done = p.done;
    rest = held;
    read = p.read;
    unfinished = more;
    stops = stops_on old mid now going stops;
    text = p.text;
  }

  pub whole : (old mid now : Reads R) (before after : Writes W) (held : List ℕ) (stage : Stage) (number : ℕ)
      → Progress old now before after held stage number → GoesOn old mid → held ≡ [] → Ends mid now → IsAtEnd (remaining now.reader)
      → IsWhole remaining contents old now before after
  whole old mid now before after held stage number p going none ends at_end = record {
    read = p.done;
    consumed = subst (λ read. Consumes (remaining old.reader) (remaining now.reader) read) (ap (λ t. p.done ++ t) none ∙ append-nil p.done)
        p.read.consumed;
    ends = ends_on old mid now going ends;
    at_end = at_end;
    good = p.leads.good;
    text = p.text;
  }

  pub nothing_done : (old : Reads R) (before : Writes W) → WantsMemory remaining contents old old before before
  nothing_done old before = record {
    done = [];
    rest = [];
    read = has_read_nothing old;
    in_work = inl (refl, refl, refl);
    text = sends_none contents before;
  }

  -- ---- a bad line

  stops : (old now : Reads R) (before after : Writes W) (held : List ℕ) (stage : Stage) (number : ℕ) (p : Progress old now before after held stage number)
      → BadFirst held stage [] → (Ends old now × IsAtEnd (remaining now.reader)) ⊎ (GoesOn old now × IsDecided (p.done ++ held) (suc number))
      → StopsAt remaining contents (suc number) old now before after
  stops old now before after held stage number p b decided =
      let read = p.done ++ held in
      let same : text_of read ≡ text_of p.done = ap text_of (sym (append-nil read)) ∙ text_found p.done held stage number p.leads [] b in
      record {
        done = p.done;
        rest = held;
        read = p.read;
        bad = ap bad_line (sym (append-nil read)) ∙ bad_found p.done held stage number p.leads [] b;
        decided = decided;
        text = subst (λ text. Sends contents before after text) (sym same) p.text;
      }

  stops_at_end : (old mid now : Reads R) (before after : Writes W) (held : List ℕ) (stage : Stage) (number : ℕ)
      (p : Progress old now before after held stage number)
      → BadFirst held stage [] → GoesOn old mid → Ends mid now → IsAtEnd (remaining now.reader) → StopsAt remaining contents (suc number) old now before after
  stops_at_end old mid now before after held stage number p b going ends at_end =
      stops old now before after held stage number p b (inl (ends_on old mid now going ends, at_end))

  stops_for_good : (old mid now : Reads R) (before after : Writes W) (held : List ℕ) (stage : Stage) (number : ℕ)
      (p : Progress old now before after held stage number)
      → ((more : List ℕ) → BadFirst held stage more) → GoesOn old mid → GoesOn mid now → StopsAt remaining contents (suc number) old now before after
  stops_for_good old mid now before after held stage number p b going on =
      stops old now before after held stage number p (b [])
      (inr (goes_on_on old mid now going on, decided_by p.done held stage number p.leads b))

  -- a bad line of the right number, and nothing was written
  refused_at : (number told : ℕ) (old now : Reads R) (before after out : Writes W) → StopsAt remaining contents (suc number) old now before after →
      told ≡ number + 1 → out ≡ after →
      StopsAt remaining contents told old now before out
  refused_at number told old now before after out s e kept =
      subst (λ n. StopsAt remaining contents n old now before out) (sym (omega arith))
      (subst (λ writer. StopsAt remaining contents (suc number) old now before writer) (sym kept) s)

  pub after_too_long : LinesAreRead → SaysItsSpelling → (old mid now : Reads R) (before after : Writes W) (held : List ℕ) (stage : Stage) (number : ℕ)
      → Progress old now before after held stage number → GoesOn old mid → GoesOn mid now → BeginsTooLong held
      → StopsAt remaining contents (number + 1) old now before after
  after_too_long laws spelled old mid now before after held stage number p going on long =
      subst (λ n. StopsAt remaining contents n old now before after) (sym (add-one number))
      (stops_for_good old mid now before after held stage number p (too_long_first laws spelled held stage long) going on)

  -- ---- what comes of a line

  -- an outcome of the fault that a result holds
  pub with_fault : (r : Result (Unit {0}) ScriptFault) (fault : ScriptFault) (old now : Reads R) (before after : Writes W)
      → IsErrAnd r (λ told. told ≡ fault) → IsOutcome remaining contents (Err fault) old now before after → IsOutcome remaining contents r old now before after
  with_fault (Ok done) fault old now before after told outcome = absurd told
  with_fault (Err e) fault old now before after told outcome =
      subst (λ f. IsOutcome remaining contents (Err f) old now before after) (sym told) outcome

  -- want of memory in a line's work
  memory_in : (old now : Reads R) (before after out : Writes W) (held : List ℕ) (stage : Stage) (number : ℕ) (line : List ℕ)
      → Progress old now before after held stage number → IsInWork remaining old now held line → out ≡ after → WantsMemory remaining contents old now before out
  memory_in old now before after out held stage number line p work kept =
      subst (λ writer. WantsMemory remaining contents old now before writer) (sym kept)
      (let wants : WantsMemory remaining contents old now before after = record {
        done = p.done;
        rest = held;
        read = p.read;
        in_work = inr (line, work);
        text = p.text;
      } in wants)

  -- a line in work whose text did not go out whole
  half_written : (old now : Reads R) (before after out : Writes W) (held : List ℕ) (stage : Stage) (number : ℕ) (line : List ℕ) (stepped : Stepped) (sent : ℕ)
      (p : Progress old now before after held stage number) → IsInWork remaining old now held line → bad_line (p.done ++ line) ≡ None
      → text_of (p.done ++ line) ≡ text_of p.done ++ world_text stepped.prints → SendsFront contents after out (world_text stepped.prints) sent
      → StopsWriting remaining contents old now before out
  half_written old now before after out held stage number line stepped sent p work good told w = record {
    done = p.done;
    rest = held;
    read = p.read;
    line = line;
    in_work = work;
    good = good;
    sent = length (text_of p.done) + sent;
    behind = omega arith;
    text = subst (λ text. SendsFront contents before out text (length (text_of p.done) + sent)) (sym told)
        (sends_front_on contents before after out (text_of p.done) (world_text stepped.prints) sent p.text w);
  }

  last_in_work : (old mid now : Reads R) (held : List ℕ) (count : ℕ) → GoesOn old mid → count ≤ 20000 → IsLastLine count held
      → Reaches remaining (found.Last count) mid now → IsInWork remaining old now held held
  last_in_work old mid now held count going short last reached = record {
    found = found.Last count;
    front = (short, last);
    reached = reaches_on remaining (found.Last count) old mid now going reached;
    line_is = refl;
  }

  line_in_work : (old mid now : Reads R) (held : List ℕ) (count : ℕ) → GoesOn old mid → count ≤ 20000 → BeginsWithLine count held
      → GoesOn mid now → IsInWork remaining old now held (take count held ++ 10 ∷ [])
  line_in_work old mid now held count going short begins on = record {
    found = found.Line count;
    front = (short, begins);
    reached = goes_on_on old mid now going on;
    line_is = ap Some (feed_behind count held begins);
  }

  -- the last line, without a line feed
  pub after_last : LinesAreRead →
      (r : Result (Unit {0}) ScriptFault) (old mid now : Reads R) (before after out : Writes W) (held : List ℕ) (stage : Stage) (new : Option Centre)
      (number count : ℕ) (octets : List ℕ)
      → octets ≡ held → Progress old now before after held stage number → GoesOn old mid → count ≤ 20000 → IsLastLine count held
      → Reaches remaining (found.Last count) mid now
      → WritesLineAt contents r stage (take count octets) (number + 1) new after out → IsOutcome remaining contents r old now before out
  after_last laws r old mid now before after out held stage new number count octets same p going short last reached w =
      by_outcome r (subst (λ line. WritesLineAt contents r stage line (number + 1) new after out) (ap (take count) same ∙ all_taken count held last.all) w)
    where
      by_outcome : (r : Result (Unit {0}) ScriptFault) → WritesLineAt contents r stage held (number + 1) new after out
          → IsOutcome remaining contents r old now before out
      by_outcome (Ok done) w =
          let well = ends_well laws p.done held stage number count w.done p.leads last w.step in
          record {
            read = p.done ++ held;
            consumed = p.read.consumed;
            ends = ends_on old mid now going reached.0;
            at_end = reached.1;
            good = well.good;
            text = subst (λ t. Sends contents before out t) (sym well.text)
                (sends_on contents before after out (text_of p.done) (world_text w.done.prints) p.text w.text);
          }
      by_outcome (Err (BadLine told)) w =
          refused_at number told old now before after out
          (stops_at_end old mid now before after held stage number p (last_first laws held stage count last w.bad) going reached.0 reached.1)
          w.counted w.kept
      by_outcome (Err Read) w = absurd w
      by_outcome (Err Write) w =
          let well = ends_well laws p.done held stage number count w.done p.leads last w.step in
          half_written old now before after out held stage number held w.done w.sent p (last_in_work old mid now held count going short last reached)
          well.good well.text w.text
      by_outcome (Err Memory) w = memory_in old now before after out held stage number held p (last_in_work old mid now held count going short last reached) w

  -- a whole line that was not done to its end
  pub after_line : LinesAreRead →
      (fault : ScriptFault) (old mid now : Reads R) (before after out : Writes W) (held : List ℕ) (stage : Stage) (new : Option Centre)
      (number count : ℕ) (octets : List ℕ)
      → octets ≡ held → Progress old now before after held stage number → GoesOn old mid → count ≤ 20000 → BeginsWithLine count held → GoesOn mid now
      → WritesLineAt contents (Err fault) stage (take count octets) (number + 1) new after out → IsOutcome remaining contents (Err fault) old now before out
  after_line laws fault old mid now before after out held stage new number count octets same p going short begins on w =
      by_fault fault (subst (λ line. WritesLineAt contents (Err fault) stage line (number + 1) new after out) (ap (take count) same) w)
    where
      line : List ℕ
      line = take count held

      by_fault : (f : ScriptFault) → WritesLineAt contents (Err f) stage (take count held) (number + 1) new after out
          → IsOutcome remaining contents (Err f) old now before out
      by_fault (BadLine told) w =
          refused_at number told old now before after out
          (stops_for_good old mid now before after held stage number p (line_first laws held stage count begins w.bad) going on) w.counted w.kept
      by_fault Read w = absurd w
      by_fault Write w =
          let well = goes_on_well laws p.done (take count held) stage number w.done p.leads begins.line w.step in
          half_written old now before after out held stage number (take count held ++ 10 ∷ []) w.done w.sent p
          (line_in_work old mid now held count going short begins on) well.leads.good well.text w.text
      by_fault Memory w =
          memory_in old now before after out held stage number (take count held ++ 10 ∷ []) p (line_in_work old mid now held count going short begins on) w

  -- what is behind a line was given by the last read
  needed_behind : (old now : Reads R) (done held rest : List ℕ) (count : ℕ) → BeginsWithLine count held → rest ≡ drop (count + 1) held
      → NeedsMore (held_before held now) ⊎ ((done ≡ []) × (held ≡ []) × (now ≡ old)) → NeedsMore (held_before rest now)
  needed_behind old now done held rest count begins dropped (inl needed) =
      let before = came_behind count (length held - now.came) held begins needed.line in
      let within = within_held count held begins in
      let none : length rest - now.came ≡ 0 = omega (arith, ap length dropped, length-drop (count + 1) held) in
      subst (λ n. NeedsMore (take n rest)) (sym none) nothing_needs
    where
      nothing_needs : NeedsMore []
      nothing_needs = record { short = omega arith; line = λ k d lt. absurd (omega (arith, lt)) }
  needed_behind old now done held rest count begins dropped (inr none) =
      let within = within_held count held begins in absurd (omega (arith, ap length none.1))

  -- a whole line that was done
  pub after_good_line : LinesAreRead →
      (old mid now : Reads R) (before after out : Writes W) (held rest : List ℕ) (stage : Stage) (new : Option Centre) (number count : ℕ) (octets : List ℕ)
      → octets ≡ held → Progress old now before after held stage number → GoesOn old mid → BeginsWithLine count held → GoesOn mid now
      → IsRun contents stage (take count octets) new after out → rest ≡ drop (count + 1) held → HasRun old now before out rest new (number + 1)
  after_good_line laws old mid now before after out held rest stage new number count octets same p going begins on run dropped =
      let line = take count held in
      let w = subst (λ t. IsRun contents stage (take count t) new after out) same run in
      let well = goes_on_well laws p.done line stage number w.done p.leads begins.line w.step in
      let done = p.done ++ (line ++ 10 ∷ []) in
      let all : p.done ++ held ≡ done ++ rest =
      ap (λ t. p.done ++ t) (parts count held begins ∙ ap (λ t. (line ++ 10 ∷ []) ++ t) (sym dropped)) ∙ sym (append_assoc p.done (line ++ 10 ∷ []) rest) in
      let more = within_held count held begins in
      let shorter : length rest + (count + 1) ≡ length held = omega (arith, ap length dropped, length-drop (count + 1) held, more) in
      let read : HasRead remaining old now done rest = record {
        consumed = subst (λ read. Consumes (remaining old.reader) (remaining now.reader) read) all p.read.consumed;
        lines = well.leads.lines;
        good = well.leads.good;
        needed = inl (needed_behind old now p.done held rest count begins dropped p.read.needed);
      } in
      let next_stage = w.done.next in
      let progress : Progress old now before out rest next_stage (number + 1) = record {
        done = done;
        read = read;
        leads = well.leads;
        text = subst (λ t. Sends contents before out t) (sym well.text)
            (sends_on contents before after out (text_of p.done) (world_text w.done.prints) p.text w.text);
        room = omega (arith, p.room, shorter);
        fits = omega (arith, p.fits, shorter);
        few = omega (arith, p.few, shorter);
      } in
      record { stage = next_stage; stands = w.stands; progress = progress; goes_on = goes_on_on old mid now going on }
