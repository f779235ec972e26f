-- A query_sm that comes later, by the lines of a script over three nodes, computed.
use Rattle.std.specs.Fmt.{digits}
use Rattle.std.specs.Prelude.{◌&&◌, codes, is_some}
use Rattle.std.proofs.lemmas.Bool.{and_parts, true≢false}
use Rattle.std.specs.Option.{unwrap_or}
use Rattle.hex.specs.Hex.{decode_pairs}
use Rattle.node_model.specs.Recorded.{has_record}
use Rattle.mc_types.specs.Texts.{id_in}
use Rattle.octet_fields.specs.Reading.{content_at, number_at, parameters_at, taken_at, text_at, tlv_at, tlvs_from}
use Rattle.pdu_codec.specs.Bodies.{body_at}
use Rattle.pdu_codec.specs.Pdu.{framed, read_pdu}
use Rattle.pdu_frames.specs.Frames.{cut_within}
use Rattle.script_lines.specs.Said.{behind, grant_said, named_said, node_at, nodes_in, nodes_said, nodes_with, number_of, octets_parts, octets_said}
use Rattle.script_lines.specs.Said.{said_of, settle_said, tick_said, words_said}
use Rattle.script_lines.specs.Said as said
use Rattle.script_text.specs.Attempts.{all_given_up}
use Rattle.script_text.specs.Pushes.{accounts_up, session_numbers, target_in}
use Rattle.script_text.specs.Receipts.{all_posted, goes_out_up_to, posted_for_all}
use Rattle.script_text.specs.Runner.{on_frame, on_frames, on_octets, told}
use Rattle.script_text.specs.Script.{prints_from, step_of}
use Rattle.script_text.specs.World.{due_among, settles}
use Rattle.std.proofs.Common.{◌≡◌, ◌⊎◌, ℕ, Bool, true, false, List, [], ◌∷◌, ◌++◌, length, Option, Some, None, Result}
use Rattle.std.proofs.Common.{Ok, Err, refl, inl, inr, sym, ◌∙◌, ap, subst}
use Rattle.mc_model.specs.synod.Lists.{In}
use Rattle.pdu_bodies.specs.declared.pdu.Body.{Body}
use Rattle.pdu_bodies.specs.declared.pdu.Body.TheVariants.{GenericNack}
use Rattle.pdu_bodies.specs.declared.pdu.Pdu.{Pdu}
use Rattle.pdu_fields.specs.declared.fault.PduFault.{PduFault}
use Rattle.pdu_frames.specs.Frames.{cut}
use Rattle.script_lines.specs.Said.{Octets, Said, said_within}
use Rattle.sessions.specs.Session.{Session}
use Rattle.sessions.specs.declared.request.OpenRequest.{OpenRequest}
use Rattle.script_text.specs.Runner.{Runner, held_in, runner_opened}
use Rattle.script_text.specs.Settings.{Settings, script_settings}
use Rattle.script_text.specs.Prints.{WorldPrint}
use Rattle.script_text.specs.Script.{Joins, Stage, Stepped}
use Rattle.script_text.specs.World.{NodeInput, World, node_opened, opened, runner_at}
use Rattle.world_fates.specs.Example.{ALaterQueryIsTold, its_message, then_it_asks, until_it_asks}
use Rattle.world_fates.proofs.Coming.{the_world}
use Rattle.world_fates.specs.Requests.{EndsIn, IsQueryOf, IsUsedFor}

-- what is known of a world, and of the runner of its node 2, in which it asks
record IsReady (world : World) (runner : Runner) : Type 0 where
  there : runner_at world 2 ≡ Some runner
  held : held_in runner.streams 1 ≡ []
  free : (session : Session) → In (1, session) runner.sessions → session.requests ≡ []
  nodes : length world.runners ≡ 3

-- ---- lines that join, computed

after_line : Settings → Stage → List ℕ → Stepped
after_line settings stage line = unwrap_or (step_of settings stage line) (record { next = stage; inputs = []; prints = [] })

stage_after : Settings → Stage → List (List ℕ) → Stage
stage_after settings stage [] = stage
stage_after settings stage (line ∷ lines) = stage_after settings (after_line settings stage line).next lines

inputs_after : Settings → Stage → List (List ℕ) → List NodeInput
inputs_after settings stage [] = []
inputs_after settings stage (line ∷ lines) = (after_line settings stage line).inputs ++ inputs_after settings (after_line settings stage line).next lines

prints_after : Settings → Stage → List (List ℕ) → List WorldPrint
prints_after settings stage [] = []
prints_after settings stage (line ∷ lines) = (after_line settings stage line).prints ++ prints_after settings (after_line settings stage line).next lines

-- whether each of them says something that is done
are_good : Settings → Stage → List (List ℕ) → Bool
are_good settings stage [] = true
are_good settings stage (line ∷ lines) = is_some (step_of settings stage line) && are_good settings (after_line settings stage line).next lines

-- a line says something if this is computed
some_is : {A : Type 0} (found : Option A) (other : A) → is_some found ≡ true → found ≡ Some (unwrap_or found other)
some_is None other is = absurd cc
some_is (Some one) other is = refl

line_good : (settings : Settings) (stage : Stage) (line : List ℕ) → is_some (step_of settings stage line) ≡ true →
    step_of settings stage line ≡ Some (after_line settings stage line)
unfolding after_line
line_good settings stage line is = some_is (step_of settings stage line) (record { next = stage; inputs = []; prints = [] }) is

joins_good : (settings : Settings) (lines : List (List ℕ)) (stage : Stage) → are_good settings stage lines ≡ true →
    Joins settings stage lines (inputs_after settings stage lines) (prints_after settings stage lines) (stage_after settings stage lines)
unfolding are_good inputs_after prints_after stage_after Joins
joins_good settings [] stage good = (refl, refl, refl)
joins_good settings (line ∷ lines) stage good =
    let next = (after_line settings stage line).next in
    let both = and_parts (is_some (step_of settings stage line)) (are_good settings next lines) good in (
      after_line settings stage line,
      inputs_after settings next lines,
      prints_after settings next lines,
      line_good settings stage line both.0,
      refl,
      refl,
      joins_good settings lines next both.1,
    )

none_of : List OpenRequest → Bool
none_of [] = true
none_of (request ∷ requests) = false

-- whether no request waits on these sessions
are_free : List (ℕ × Session) → Bool
are_free [] = true
are_free (entry ∷ entries) = none_of entry.1.requests && are_free entries

nothing_in : (requests : List OpenRequest) → none_of requests ≡ true → requests ≡ []
unfolding none_of
nothing_in [] is = refl
nothing_in (request ∷ requests) is = absurd cc

free_all : (connected : List (ℕ × Session)) → are_free connected ≡ true → (number : ℕ) (session : Session) → In (number, session) connected →
    session.requests ≡ []
unfolding are_free
free_all [] is number session among = absurd among
free_all (entry ∷ entries) is number session (inl same) =
    ap (λ (e : ℕ × Session). e.1.requests) same ∙ nothing_in entry.1.requests (and_parts (none_of entry.1.requests) (are_free entries) is).0
free_all (entry ∷ entries) is number session (inr later) =
    free_all entries (and_parts (none_of entry.1.requests) (are_free entries) is).1 number session later

-- ---- the world in which it asks

world : World
world = unwrap_or (stage_after script_settings None until_it_asks) (opened script_settings 1 1)

runner : Runner
runner = unwrap_or (runner_at world 2) (runner_opened (node_opened script_settings 1 1 1))

good_before : are_good script_settings None until_it_asks ≡ true
unfolding are_good stage_after after_line prints_from step_of said_of words_said named_said nodes_said octets_said octets_parts settle_said nodes_in
    nodes_with node_at number_of behind said.number_at cut_within decode_pairs on_octets on_frames on_frame told all_given_up accounts_up session_numbers
    target_in goes_out_up_to posted_for_all all_posted settles due_among has_record read_pdu framed body_at content_at number_at parameters_at taken_at
    text_at tlv_at tlvs_from id_in digits
good_before = refl

stage_is : stage_after script_settings None until_it_asks ≡ Some world
unfolding world stage_after after_line prints_from step_of said_of words_said named_said nodes_said octets_said octets_parts settle_said nodes_in nodes_with
    node_at number_of behind said.number_at cut_within decode_pairs on_octets on_frames on_frame told all_given_up accounts_up session_numbers target_in
    goes_out_up_to posted_for_all all_posted settles due_among has_record read_pdu framed body_at content_at number_at parameters_at taken_at text_at tlv_at
    tlvs_from id_in digits
stage_is = some_is (stage_after script_settings None until_it_asks) (opened script_settings 1 1) refl

there_is : runner_at world 2 ≡ Some runner
unfolding runner world stage_after after_line prints_from step_of said_of words_said named_said nodes_said octets_said octets_parts settle_said nodes_in
    nodes_with node_at number_of behind said.number_at cut_within decode_pairs on_octets on_frames on_frame told all_given_up accounts_up session_numbers
    target_in goes_out_up_to posted_for_all all_posted settles due_among has_record read_pdu framed body_at content_at number_at parameters_at taken_at
    text_at tlv_at tlvs_from id_in digits
there_is = some_is (runner_at world 2) (runner_opened (node_opened script_settings 1 1 1)) refl

held_is : held_in runner.streams 1 ≡ []
unfolding runner world stage_after after_line prints_from step_of said_of words_said named_said nodes_said octets_said octets_parts settle_said nodes_in
    nodes_with node_at number_of behind said.number_at cut_within decode_pairs on_octets on_frames on_frame told all_given_up accounts_up session_numbers
    target_in goes_out_up_to posted_for_all all_posted settles due_among has_record read_pdu framed body_at content_at number_at parameters_at taken_at
    text_at tlv_at tlvs_from id_in digits
held_is = refl

nodes_are : length world.runners ≡ 3
unfolding world stage_after after_line prints_from step_of said_of words_said named_said nodes_said octets_said octets_parts settle_said nodes_in nodes_with
    node_at number_of behind said.number_at cut_within decode_pairs on_octets on_frames on_frame told all_given_up accounts_up session_numbers target_in
    goes_out_up_to posted_for_all all_posted settles due_among has_record read_pdu framed body_at content_at number_at parameters_at taken_at text_at tlv_at
    tlvs_from id_in digits
nodes_are = refl

nothing_waits : are_free runner.sessions ≡ true
unfolding are_free none_of runner world stage_after after_line prints_from step_of said_of words_said named_said nodes_said octets_said octets_parts
    settle_said nodes_in nodes_with node_at number_of behind said.number_at cut_within decode_pairs on_octets on_frames on_frame told all_given_up
    accounts_up session_numbers target_in goes_out_up_to posted_for_all all_posted settles due_among has_record read_pdu framed body_at content_at number_at
    parameters_at taken_at text_at tlv_at tlvs_from id_in digits
nothing_waits = refl

ready : IsReady world runner
ready = record { there = there_is; held = held_is; free = free_all runner.sessions nothing_waits 1; nodes = nodes_are }

-- ---- what comes then

query_line : List ℕ
query_line = codes "pdu 2 1 000000210000000300000000000000033130303031303030303100010131343400"

settle_line : List ℕ
settle_line = codes "settle"

octets_of : Option Said → List ℕ
octets_of (Some (Octets node session octets)) = octets
octets_of other = []

are_octets : Option Said → Bool
are_octets (Some (Octets node session octets)) = true
are_octets other = false

octets : List ℕ
octets = octets_of (said_within 3 query_line)

is_single : List (List ℕ) → Bool
is_single [] = false
is_single (one ∷ []) = true
is_single (one ∷ other ∷ others) = false

first_of : List (List ℕ) → List ℕ
first_of [] = []
first_of (one ∷ others) = one

single_is : (all : List (List ℕ)) (one : List ℕ) → is_single all ≡ true → In one all → one ≡ first_of all
unfolding is_single first_of
single_is [] one is among = absurd among
single_is (first ∷ []) one is (inl same) = same
single_is (first ∷ []) one is (inr none) = absurd none
single_is (first ∷ other ∷ others) one is among = absurd cc

frame : List ℕ
frame = first_of (cut octets).frames

body_of : Result Pdu PduFault → Body
body_of (Ok pdu) = pdu.body
body_of (Err fault) = GenericNack

one_frame : is_single (cut octets).frames ≡ true
unfolding octets octets_of query_line is_single prints_from step_of said_of words_said named_said nodes_said octets_said octets_parts settle_said nodes_in
    nodes_with node_at number_of behind said.number_at cut_within decode_pairs on_octets on_frames on_frame told all_given_up accounts_up session_numbers
    target_in goes_out_up_to posted_for_all all_posted settles due_among has_record read_pdu framed body_at content_at number_at parameters_at taken_at
    text_at tlv_at tlvs_from id_in digits
one_frame = refl

its_body : IsQueryOf its_message (body_of (read_pdu frame))
unfolding body_of frame first_of octets octets_of query_line prints_from step_of said_of words_said named_said nodes_said octets_said octets_parts
    settle_said nodes_in nodes_with node_at number_of behind said.number_at cut_within decode_pairs on_octets on_frames on_frame told all_given_up
    accounts_up session_numbers target_in goes_out_up_to posted_for_all all_posted settles due_among has_record read_pdu framed body_at content_at number_at
    parameters_at taken_at text_at tlv_at tlvs_from id_in digits
its_body = refl

no_octets : (most : ℕ) → are_octets (said_within most settle_line) ≡ false
unfolding are_octets settle_line prints_from step_of said_of words_said named_said nodes_said octets_said octets_parts settle_said nodes_in nodes_with
    node_at number_of behind said.number_at cut_within decode_pairs on_octets on_frames on_frame told all_given_up accounts_up session_numbers target_in
    goes_out_up_to posted_for_all all_posted settles due_among has_record read_pdu framed body_at content_at number_at parameters_at taken_at text_at tlv_at
    tlvs_from id_in digits
no_octets most = refl

the_runner : (one other : Runner) → Some one ≡ Some other → one ≡ other
the_runner one other is = cc

-- two lines, parted: the one that comes is the first or the second
parted : (one other : List ℕ) (before : List (List ℕ)) (line : List ℕ) (later : List (List ℕ)) → one ∷ other ∷ [] ≡ before ++ line ∷ later →
    ((before ≡ []) × (line ≡ one)) ⊎ (line ≡ other)
parted one other [] line later is = inl (refl, cc)
parted one other (first ∷ []) line later is = inr cc
parted one other (first ∷ second ∷ []) line later is = absurd cc
parted one other (first ∷ second ∷ third ∷ others) line later is = absurd cc

octets_same : (came front : List ℕ) → front ≡ [] → said_within 3 query_line ≡ Some (Octets 2 1 came) → front ++ came ≡ octets
unfolding octets octets_of
octets_same came front none says = ap (λ (f : List ℕ). f ++ came) none ∙ sym (ap octets_of says)

lines_same : {others : List (List ℕ)} → then_it_asks ≡ others → query_line ∷ settle_line ∷ [] ≡ others
unfolding query_line settle_line
lines_same are = are

joins_none : (first : World) (before : List (List ℕ)) (came : List NodeInput) (prints : List WorldPrint) (last : World) → before ≡ [] →
    Joins script_settings (Some first) before came prints (Some last) → Some last ≡ Some first
unfolding Joins
joins_none first [] came prints last none joins = joins.2
joins_none first (line ∷ lines) came prints last none joins = absurd cc

no_octets_come : (most : ℕ) (came : List ℕ) → said_within most settle_line ≡ Some (Octets 2 1 came) → ⊥
unfolding are_octets
no_octets_come most came says = true≢false (sym (ap are_octets says) ∙ no_octets most)

module _ (world : World) (runner : Runner) (is : IsReady world runner) where
  query_comes : (pdu : Pdu) → EndsIn world query_line 2 1 pdu → IsQueryOf its_message pdu.body
  unfolding first_of frame body_of
  query_comes pdu it =
      let ends = it.ends in
      let says = subst (λ (most : ℕ). said_within most query_line ≡ Some (Octets 2 1 ends.octets)) is.nodes ends.says in
      let here = the_runner ends.runner runner (sym ends.there ∙ is.there) in
      let held = ap (λ (r : Runner). held_in r.streams 1) here ∙ is.held in
      let one = single_is (cut octets).frames it.frame one_frame
      (subst (λ (o : List ℕ). In it.frame (cut o).frames) (octets_same ends.octets (held_in ends.runner.streams 1) held says) ends.ends) in
      subst (IsQueryOf its_message)
      (ap body_of (ap read_pdu (sym one) ∙ it.reads)) its_body

  used_so : IsUsedFor (IsQueryOf its_message) script_settings world then_it_asks 2 1 3
  used_so = record {
    free = λ asks.
        let here = the_runner asks.runner runner (sym asks.there ∙ is.there) in
        let none = is.free asks.session (subst (λ (r : Runner). In (1, asks.session) r.sessions) here asks.connected) in
        subst (In asks.request) none asks.waits;
    only = λ pdu comes same request. elim (parted query_line settle_line comes.before comes.line comes.later (lines_same comes.lines_are)) [
      | inl first ↦
          let there = the_world comes.world world (joins_none world comes.before comes.came comes.prints comes.world first.0 comes.joins) in
          query_comes pdu (subst (λ (w : World). EndsIn w query_line 2 1 pdu) there
          (subst (λ (line : List ℕ). EndsIn comes.world line 2 1 pdu) first.1 comes.ends))
      | inr second ↦
          let says = subst (λ (line : List ℕ). said_within (length comes.world.runners) line ≡ Some (Octets 2 1 comes.ends.ends.octets)) second
          comes.ends.ends.says in
          absurd (no_octets_come (length comes.world.runners) comes.ends.ends.octets says)
    ];
  }

-- ---- what is printed

good_after : are_good script_settings (Some world) then_it_asks ≡ true
unfolding are_good world stage_after after_line prints_from step_of said_of words_said named_said nodes_said octets_said octets_parts settle_said nodes_in
    nodes_with node_at number_of behind said.number_at cut_within decode_pairs on_octets on_frames on_frame told all_given_up accounts_up session_numbers
    target_in goes_out_up_to posted_for_all all_posted settles due_among has_record read_pdu framed body_at content_at number_at parameters_at taken_at
    text_at tlv_at tlvs_from id_in digits
good_after = refl

pub told_later : ALaterQueryIsTold
unfolding prints_after world stage_after after_line prints_from step_of said_of words_said named_said nodes_said octets_said octets_parts settle_said
    nodes_in nodes_with node_at number_of behind said.number_at cut_within decode_pairs on_octets on_frames on_frame told all_given_up accounts_up
    session_numbers target_in goes_out_up_to posted_for_all all_posted settles due_among has_record read_pdu framed body_at content_at number_at
    parameters_at taken_at text_at tlv_at tlvs_from id_in digits
told_later = record {
  world = world;
  last = stage_after script_settings (Some world) then_it_asks;
  came = inputs_after script_settings None until_it_asks;
  coming = inputs_after script_settings (Some world) then_it_asks;
  prints = prints_after script_settings None until_it_asks;
  others = prints_after script_settings (Some world) then_it_asks;
  joins = subst (Joins script_settings None until_it_asks (inputs_after script_settings None until_it_asks) (prints_after script_settings None until_it_asks))
      stage_is (joins_good script_settings until_it_asks None good_before);
  more = joins_good script_settings then_it_asks (Some world) good_after;
  cancel = _;
  cancel_in = inr (inr (inl refl));
  deletion = record { session = _; id = _; pdu = _; printed = refl; status = refl; body = refl; message = refl };
  used = used_so world runner ready;
  query = _;
  query_in = inl refl;
  goes = (refl, refl);
  state = record { pdu = _; answer = _; printed = refl; status = refl; body = refl; message = refl; state_is = refl };
}
