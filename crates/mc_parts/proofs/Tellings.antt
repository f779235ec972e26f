-- What a Told stands on.
use Rattle.std.proofs.Common.{◌≡◌, ℕ, List, [], ◌∷◌, Option, Some, None, refl, ◌∙◌, subst}
use Rattle.mc_model.specs.message.Ids.{node_of}
use Rattle.mc_model.specs.message.Submission.{Submission}
use Rattle.mc_model.specs.message.Decree.{Decree, Author, Kind, Final, Taken, Attempt, Failed, Fate, Told}
use Rattle.mc_model.specs.message.Neighbours.{MayBegin, MayFollow}
use Rattle.mc_model.specs.message.Chain.{IsPermitted, MayExtend, attempts_in, final_by, final_in, home_by, home_in, taken_in}
use Rattle.mc_model.specs.node.Actor.{Actor}
use Rattle.mc_model.specs.node.Knowledge.{Knows}
use Rattle.mc_model.specs.node.Causes.{CausesTold}
use Rattle.mc_parts.specs.Telling.{TellsAFate}

-- no decree but the first takes the message
later_home : (message : Submission) (home attempt : ℕ) (old : Author) (before : ℕ) (kind : Kind) (author : Author) (moment : ℕ) (next : Kind) →
    MayFollow message home attempt old before kind author moment next → (node other : ℕ) →
    home_by next node other ≡ other
later_home message home attempt old before (Taken taken) author moment (Taken again) may node other = absurd may
later_home message home attempt old before (Attempt number) author moment (Taken again) may node other = absurd may
later_home message home attempt old before (Failed error) author moment (Taken again) may node other = absurd may
later_home message home attempt old before (Fate final error) author moment (Taken again) may node other = absurd may
later_home message home attempt old before Told author moment (Taken again) may node other = absurd may
later_home message home attempt old before kind author moment (Attempt number) may node other = refl
later_home message home attempt old before kind author moment (Failed error) may node other = refl
later_home message home attempt old before kind author moment (Fate final error) may node other = refl
later_home message home attempt old before kind author moment Told may node other = refl

home_extended : (taken : Option Submission) (decrees : List Decree) (next : Decree) → MayExtend taken decrees next → home_in (next ∷ decrees) ≡ home_in decrees
home_extended None decrees next may = absurd may
home_extended (Some message) [] next may = absurd may
home_extended (Some message) (newest ∷ older) next may =
    later_home message _ _ newest.author newest.moment newest.kind next.author next.moment next.kind may.1 next.author.node _

home_begun : (id : ℕ) (author : Author) (moment : ℕ) (kind : Kind) → MayBegin id author moment kind → home_by kind author.node 0 ≡ node_of id
home_begun id author moment (Taken message) may = may.node
home_begun id author moment (Attempt number) may = absurd may
home_begun id author moment (Failed error) may = absurd may
home_begun id author moment (Fate final error) may = absurd may
home_begun id author moment Told may = absurd may

-- the node that took a message is the one that its id names
pub home_is_named : (id : ℕ) (decrees : List Decree) → IsPermitted id decrees → home_in decrees ≡ node_of id
home_is_named id [] permitted = absurd permitted
home_is_named id (only ∷ []) permitted = home_begun id only.author only.moment only.kind permitted
home_is_named id (newest ∷ older ∷ oldest) permitted = home_extended _ (older ∷ oldest) newest permitted.1 ∙ home_is_named id (older ∷ oldest) permitted.0

-- ---- of a permitted chain

fate_told : (id : ℕ) (told fate : Decree) (oldest : List Decree) (message : Submission) (kind : Kind) → fate.kind ≡ kind →
    taken_in (fate ∷ oldest) ≡ Some message → home_in (fate ∷ oldest) ≡ node_of id →
    MayFollow message (home_in (fate ∷ oldest)) (attempts_in (fate ∷ oldest)) fate.author fate.moment kind told.author told.moment Told →
    TellsAFate id told (fate ∷ oldest)
fate_told id told fate oldest message (Taken taken) is takes home may = absurd may
fate_told id told fate oldest message (Attempt number) is takes home may = absurd may
fate_told id told fate oldest message (Failed error) is takes home may = absurd may
fate_told id told fate oldest message (Fate final error) is takes home may = record {
  fate = fate;
  oldest = oldest;
  final = final;
  error = error;
  message = message;
  behind = refl;
  ends = is;
  taken = takes;
  asked = may.asked;
  home = may.node ∙ home;
}
fate_told id told fate oldest message Told is takes home may = absurd may

extends : (id : ℕ) (told fate : Decree) (oldest : List Decree) (taken : Option Submission) → told.kind ≡ Told → taken_in (fate ∷ oldest) ≡ taken →
    home_in (fate ∷ oldest) ≡ node_of id → MayExtend taken (fate ∷ oldest) told →
    TellsAFate id told (fate ∷ oldest)
extends id told fate oldest None is takes home may = absurd may
extends id told fate oldest (Some message) is takes home may = fate_told id told fate oldest message fate.kind refl takes home
    (subst (λ (kind : Kind). MayFollow message (home_in (fate ∷ oldest)) (attempts_in (fate ∷ oldest)) fate.author fate.moment fate.kind told.author told.moment kind) is may.1)

begins : (id : ℕ) (author : Author) (moment : ℕ) (kind : Kind) → kind ≡ Told → MayBegin id author moment kind → ⊥
begins id author moment (Taken message) is may = cc
begins id author moment (Attempt number) is may = may
begins id author moment (Failed error) is may = may
begins id author moment (Fate final error) is may = may
begins id author moment Told is may = may

pub told_stands : (id : ℕ) (told : Decree) (older : List Decree) → IsPermitted id (told ∷ older) → told.kind ≡ Told → TellsAFate id told older
told_stands id told [] permitted is = absurd (begins id told.author told.moment told.kind is permitted)
told_stands id told (fate ∷ oldest) permitted is =
    extends id told fate oldest _ is refl (home_is_named id (fate ∷ oldest) permitted.0) permitted.1

-- ---- behind a fate alone

fate_below : (message : Submission) (home attempt : ℕ) (old : Author) (before : ℕ) (kind : Kind) (author : Author) (moment : ℕ) (older : Option Final) →
    MayFollow message home attempt old before kind author moment Told → (final : Final) × (final_by kind older ≡ Some final)
fate_below message home attempt old before (Taken taken) author moment older may = absurd may
fate_below message home attempt old before (Attempt number) author moment older may = absurd may
fate_below message home attempt old before (Failed error) author moment older may = absurd may
fate_below message home attempt old before (Fate final error) author moment older may = (final, refl)
fate_below message home attempt old before Told author moment older may = absurd may

-- what a Told may follow has a final state
pub told_behind_fate : (taken : Option Submission) (decrees : List Decree) (told : Decree) → told.kind ≡ Told → MayExtend taken decrees told →
    (final : Final) × (final_in decrees ≡ Some final)
told_behind_fate None decrees told is may = absurd may
told_behind_fate (Some message) [] told is may = absurd may
told_behind_fate (Some message) (newest ∷ older) told is may =
    fate_below message (home_in (newest ∷ older)) (attempts_in (newest ∷ older)) newest.author newest.moment newest.kind told.author told.moment
    (final_in older)
    (subst (λ (kind : Kind). MayFollow message (home_in (newest ∷ older)) (attempts_in (newest ∷ older)) newest.author newest.moment newest.kind
    told.author told.moment kind) is may.1)

-- ---- no receipt is to be told

-- if what is known now was known before
pub unannounced : (nodes node : ℕ) (before after : Actor) (id place : ℕ) (chain : List Decree) →
    ((known : List Decree) → Knows nodes after.received id known → Knows nodes before.received id known) → CausesTold nodes node before after id place chain →
    ⊥
unannounced nodes node before after id place chain knew told =
    let further = told.due.further in
    let fate = told_behind_fate (Some further.taken) (further.newest ∷ further.older) _ refl told.due.may in
    told.new (further.newest ∷ further.older) fate.0 (knew (further.newest ∷ further.older) further.known) fate.1
