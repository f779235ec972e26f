-- What a tick decides on a message is the first rule of the model.
use Rattle.std.proofs.Common.{◌≡◌, ℕ, zero, suc, Bool, true, false, List, [], ◌∷◌, length, Option, Some, None, refl, sym, ap, subst, ◌∙◌}
use Rattle.std.specs.Prelude.{pred, ◌==◌, IfOk, IfSome, option_map, Result, Ok, Err, if◌then◌else◌}
use Rattle.std.proofs.lemmas.Bool.Decides.{Decides-eqb}
use Rattle.std.specs.List.{list_any}
use Rattle.std.specs.Option.{option_or}
use Rattle.mc_model.specs.message.Submission.{Submission}
use Rattle.mc_model.specs.message.Decree.{Decree}
use Rattle.mc_model.specs.message.Chain.{Chain, MayExtend, error_in, taken_in}
use Rattle.mc_model.specs.synod.OneSlot.{Vote}
use Rattle.mc_model.specs.synod.Packet.{TopVote, slot_at}
use Rattle.mc_model.specs.synod.Acceptor.{Records}
use Rattle.mc_model.specs.node.FirstRule.{Follow, Take}
use Rattle.mc_model.specs.node.Reach.{Reach}
use Rattle.mc_model.specs.node.Setup.{Setup}
use Rattle.node_model.specs.Acceptor.{told_below, told_of, told_with}
use Rattle.node_model.specs.Kept.{Held, Kept}
use Rattle.node_model.specs.Message.{Message, most_places}
use Rattle.node_model.specs.Proposer.{Start}
use Rattle.node_model.specs.Rules.{Fitting, first_rule, fitting, known_rule, own_rule, shown_to, taken_for}
use Rattle.node_model.specs.Requests.{higher_top, id_of}
use Rattle.node_model.specs.Starts.{cancels, follow}
use Rattle.tick_rules.proofs.Ticked.{rule_seen}
use Rattle.tick_rules.specs.Dues.{IsBehind, IsDueBehind, MayBeDue, decree_for, fitting_for, own_rule as rule_here, rule_of, start_for}
use Rattle.tick_rules.specs.Reaching.{reached_by}
use Rattle.tick_rules.specs.Seen.{IsSeen}
use Rattle.tick_rules.specs.Standpoints.{start_of}
use Rattle.tick_rules.specs.declared.due.Due.{Due}
use Rattle.tick_rules.specs.declared.reached.Reached.{Reached}
use Rattle.tick_rules.specs.declared.standpoint.Standpoint.{Standpoint}
use Rattle.synod_acceptor.specs.Records.{record_at}
use Rattle.node_parts.specs.declared.message.Message.{Message as Filed}
use Rattle.node_parts.specs.declared.ruling.Ruling.{Ruling}
use Rattle.node_parts.specs.Attempting.{attempted_in}
use Rattle.node_parts.specs.Messages.{message_of}
use Rattle.node_parts.specs.Told.{AreToldOf}
use Rattle.node_parts.specs.Turning.{IsAtRest, gives_up, ruled_as, ruled_by}
use Rattle.node_parts.proofs.Told.{higher_told}

-- ---- what was voted

told_same : (one other : Records) (id bound : ℕ) → ((place : ℕ) → one (slot_at id place) ≡ other (slot_at id place)) →
    told_below one id bound ≡ told_below other id bound
told_same one other id zero same = refl
told_same one other id (suc place) same =
    λ i. told_with (slot_at id place) (same place i).vote (told_same one other id place same i)

told_named : (records : Records) (id bound : ℕ) → IfSome (told_below records id bound) (λ top. top.id ≡ id)
told_named records id zero = tt
told_named records id (suc place) = by_vote (records (slot_at id place)).vote (told_below records id place) (told_named records id place)
  where
    by_vote : (vote : Option Vote) (lower : Option TopVote) → IfSome lower (λ top. top.id ≡ id) →
        IfSome (told_with (slot_at id place) vote lower) (λ top. top.id ≡ id)
    by_vote None lower named = named
    by_vote (Some vote) lower named = refl

pub told_of_named : (records : Records) (id : ℕ) → IfSome (told_of records id) (λ top. top.id ≡ id)
told_of_named records id = told_named records id most_places

-- what is shown of an id is of it
pub shown_named : (id : ℕ) (held : List Held) (top : Option TopVote) → AreToldOf held → IfSome top (λ it. it.id ≡ id) →
    IfSome (shown_to id held top) (λ it. it.id ≡ id)
shown_named id [] top told named = named
shown_named id (h ∷ others) top told named = shown_named id others (if id_of h == id then higher_top top h.top else top) told.1 (by_test (id_of h == id) refl)
  where
    by_test : (test : Bool) → (id_of h == id) ≡ test → IfSome (if test then higher_top top h.top else top) (λ it. it.id ≡ id)
    by_test true about =
        higher_told id top h.top named (subst (λ (i : ℕ). IfSome h.top (λ it. it.id ≡ i)) ((Decides-eqb (id_of h) id).0 about) told.0)
    by_test false apart = named

-- ---- behind what is known

module _ (setup : Setup) (k : Kept) (held : List Held) (reach : Reach) (id : ℕ) (m : Filed) (s : Standpoint) (rest : IsAtRest setup k held id m s) where
  -- whether a cancel_sm deletes the message of this chain
  abbrev pub IsCancelled : List Decree → Bool → Type 0
  IsCancelled chain cancelled = (taken : Submission) → taken_in chain ≡ Some taken → cancelled ≡ list_any (cancels id taken) held

  -- what a tick says of the message of this chain
  abbrev pub IsReached : List Decree → Reached → Type 0
  IsReached chain reached = (taken : Submission) → taken_in chain ≡ Some taken → reached ≡ reached_by reach id taken

  seen : (taken : Submission) (place : ℕ) (cancelled : Bool) → cancelled ≡ list_any (cancels id taken) held →
      IsSeen setup k id taken place s (attempted_in m.attempts place) cancelled
  seen taken place cancelled by = record {
    node = rest.node;
    incarnation = rest.incarnation;
    clock = rest.clock;
    granted = sym (ap (λ (n : Message). n.granted place) rest.message);
    closed = sym (ap (λ (n : Message). n.closed place) rest.message);
    asked = by ∙ sym (ap (λ (waits : List Held). list_any (cancels id taken) waits) rest.waits);
  }

  pub due_is : (newest : Decree) (older : List Decree) (cancelled : Bool) (reached : Reached) (due : Option Due) → IsCancelled (newest ∷ older) cancelled →
      IsReached (newest ∷ older) reached →
      IsDueBehind s (attempted_in m.attempts (length older)) cancelled reached (newest ∷ older) due → IfSome due (MayBeDue s (newest ∷ older)) →
      known_rule setup k reach id (Some (newest ∷ older)) ≡ option_map (fitting_for s newest older) due
  due_is newest older cancelled reached due by reaches behind may = by_taken (taken_in (newest ∷ older)) refl due behind may
    where
      by_taken : (taken : Option Submission) → taken_in (newest ∷ older) ≡ taken → (due : Option Due) →
          IsDueBehind s (attempted_in m.attempts (length older)) cancelled reached (newest ∷ older) due → IfSome due (MayBeDue s (newest ∷ older)) →
          known_rule setup k reach id (Some (newest ∷ older)) ≡ option_map (fitting_for s newest older) due
      by_taken (Some taken) is due behind may =
          rule_seen setup k reach id newest older taken s (attempted_in m.attempts (length older)) cancelled is
          (seen taken (length older) cancelled (by taken is))
          ∙ ap (λ (r : Reached). rule_here s (attempted_in m.attempts (length older)) cancelled r newest older taken) (sym (reaches taken is))
          ∙ sym (behind taken is)
      by_taken None is None behind may = ap (own_rule setup k reach id newest older) is
      by_taken None is (Some due) behind may =
          absurd (subst (λ (taken : Option Submission). MayExtend taken (newest ∷ older) (decree_for s newest (error_in (newest ∷ older)) due)) is may)

  pub nothing_behind : (chain : List Decree) (place : ℕ) (cancelled : Bool) (reached : Reached) → place ≡ pred (length chain) →
      IsCancelled chain cancelled → IsReached chain reached → IsDueBehind s (attempted_in m.attempts place) cancelled reached chain None →
      None ≡ option_map ruled_by (known_rule setup k reach id (Some chain))
  nothing_behind [] place cancelled reached at by reaches behind = absurd behind
  nothing_behind (newest ∷ older) place cancelled reached at by reaches behind =
      let here = subst (λ (p : ℕ). IsDueBehind s (attempted_in m.attempts p) cancelled reached (newest ∷ older) None) at behind in
      sym (ap (λ (fit : Option Fitting). option_map ruled_by fit) (due_is newest older cancelled reached None by reaches here tt))

  pub ruled_behind : (chain : List Decree) (place : ℕ) (cancelled : Bool) (reached : Reached) (due : Due) (next : Chain) (given_up : Option ℕ) →
      place ≡ pred (length chain) → IsCancelled chain cancelled → IsReached chain reached →
      IsDueBehind s (attempted_in m.attempts place) cancelled reached chain (Some due) → MayBeDue s chain due →
      IsBehind s chain due next.decrees →
      given_up ≡ (if gives_up (rule_of due) then Some place else None) →
      Some (ruled_as (record { chain = next; given_up = given_up })) ≡ option_map ruled_by (known_rule setup k reach id (Some chain))
  ruled_behind [] place cancelled reached due next given_up at by reaches behind may is given = absurd behind
  ruled_behind (newest ∷ older) place cancelled reached due next given_up at by reaches behind may is given =
      let here = subst (λ (p : ℕ). IsDueBehind s (attempted_in m.attempts p) cancelled reached (newest ∷ older) (Some due)) at behind in
      let start : start_of next ≡ start_for s newest older due = λ i. record { place = pred (length (is i)); chain = is i } in
      let ends : given_up ≡ (if gives_up (rule_of due) then Some (pred (start_for s newest older due).place) else None) =
      given ∙ ap (λ (p : ℕ). if gives_up (rule_of due) then Some p else None) at in
      (λ i. Some (ends i, start i))
      ∙ sym (ap (λ (fit : Option Fitting). option_map ruled_by fit) (due_is newest older cancelled reached (Some due) by reaches here may))

  -- ---- the first rule

  known : Option (List Decree)
  known = (message_of id m).known

  abbrev behind_take : Option Start → Option Start → Option Fitting
  behind_take take vote = option_or (fitting Take take) (option_or (fitting Follow vote) (known_rule setup k reach id (message_of id m).known))

  first_is : first_rule setup k reach id ≡ behind_take (taken_for setup k id held)
      (follow (message_of id m).known (shown_to id held (told_of (record_at m.acceptor) id)))
  first_is =
      let told : told_of k.records id ≡ told_of (record_at m.acceptor) id = told_same k.records (record_at m.acceptor) id most_places
      (λ place. sym (rest.records place)) in
      λ i.
      option_or (fitting Take (taken_for setup k id (rest.waits i)))
      (option_or (fitting Follow (follow (rest.message i).known (shown_to id (rest.waits i) (told i))))
      (known_rule setup k reach id (rest.message i).known))

  pub takes : (chain : Chain) → Some (start_of chain) ≡ taken_for setup k id held →
      Some (ruled_as (record { chain = chain; given_up = None })) ≡ option_map ruled_by (first_rule setup k reach id)
  takes chain is =
      ap (λ (start : Option Start). option_map ruled_by
      (behind_take start (follow (message_of id m).known (shown_to id held (told_of (record_at m.acceptor) id))))) is
      ∙ sym (ap (λ (fit : Option Fitting). option_map ruled_by fit) first_is)

  pub follows : (chain : Chain) → None ≡ taken_for setup k id held →
      Some (start_of chain) ≡ follow (message_of id m).known (shown_to id held (told_of (record_at m.acceptor) id)) →
      Some (ruled_as (record { chain = chain; given_up = None })) ≡ option_map ruled_by (first_rule setup k reach id)
  follows chain none is =
      (λ i. option_map ruled_by (behind_take (none i) (is i)))
      ∙ sym (ap (λ (fit : Option Fitting). option_map ruled_by fit) first_is)

  pub goes_on : None ≡ taken_for setup k id held → None ≡ follow (message_of id m).known (shown_to id held (told_of (record_at m.acceptor) id)) →
      known_rule setup k reach id (message_of id m).known ≡ first_rule setup k reach id
  goes_on none nothing = (λ i. behind_take (none i) (nothing i)) ∙ sym first_is

-- of what is decided behind what is known
pub behind_is : {E : Type 0} (result : Result (Option Ruling) E) (held : List Held) (reach : Reach) (id : ℕ) (m : Filed) (s : Standpoint) (decrees : List Decree) →
    (message_of id m).known ≡ Some decrees →
    ((setup : Setup) (k : Kept) → IsAtRest setup k held id m s → None ≡ taken_for setup k id held) →
    None ≡ follow (message_of id m).known (shown_to id held (told_of (record_at m.acceptor) id)) →
    IfOk result (λ ruling. (setup : Setup) (k : Kept) → IsAtRest setup k held id m s →
    option_map ruled_as ruling ≡ option_map ruled_by (known_rule setup k reach id (Some decrees))) →
    IfOk result (λ ruling. (setup : Setup) (k : Kept) → IsAtRest setup k held id m s →
    option_map ruled_as ruling ≡ option_map ruled_by (first_rule setup k reach id))
behind_is (Ok ruling) held reach id m s decrees heard none nothing is = λ setup k rest.
    is setup k rest
    ∙ ap (λ (fit : Option Fitting). option_map ruled_by fit)
    (ap (known_rule setup k reach id) (sym heard) ∙ goes_on setup k held reach id m s rest (none setup k rest) nothing)
behind_is (Err e) held reach id m s decrees heard none nothing is = tt
