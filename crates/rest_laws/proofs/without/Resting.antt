-- Nothing is due of a message at rest.
use Rattle.std.proofs.Common.{◌≡◌, ℕ, Bool, true, false, List, [], ◌∷◌, Option, Some, None, refl, ap, ◌∙◌, inl, inr}
use Rattle.std.specs.Prelude.{◌==◌, ◌&&◌, if◌then◌else◌}
use Rattle.std.specs.Option.{option_or}
use Rattle.std.proofs.lemmas.Bool.{eqb-true, not-true}
use Rattle.mc_model.specs.message.Submission.{Submission}
use Rattle.mc_model.specs.message.Decree.{Attempt, Author, Decree, Failed, Fate, Final, Kind, Taken, Told}
use Rattle.mc_model.specs.message.Chain.{home_in, taken_in}
use Rattle.mc_model.specs.node.FirstRule.{Announce, Delete, Expire, Follow, Take, Try, Undeliver}
use Rattle.mc_model.specs.node.Grant.{NotChosen}
use Rattle.mc_model.specs.node.Reach.{Reach, may_begin}
use Rattle.mc_model.specs.node.Setup.{Setup}
use Rattle.mc_model.specs.synod.Lists.{In}
use Rattle.mc_model.specs.synod.Packet.{TopVote}
use Rattle.node_model.specs.Acceptor.{told_of}
use Rattle.node_model.specs.Answers.{is_asked}
use Rattle.node_model.specs.Attempts.{grant_refusal, known_refusal}
use Rattle.node_model.specs.Kept.{Held, Kept, message_at}
use Rattle.node_model.specs.Proposer.{Start}
use Rattle.node_model.specs.Requests.{higher_top, id_of}
use Rattle.node_model.specs.Rules.{first_rule, fitting, followed, if_so, known_rule, own_rule, shown_to, taken_for}
use Rattle.node_model.specs.Starts.{announced, delete_of, follow, start_behind, take_for}
use Rattle.rest_laws.specs.AtRest.{IsAtRest, is_last, is_over}

nobody_takes : (setup : Setup) (k : Kept) (id : ℕ) (held : List Held) → ((h : Held) → In h held → id_of h ≡ id → ⊥) →
    taken_for setup k id held ≡ None
nobody_takes setup k id [] none = refl
nobody_takes setup k id (h ∷ others) none =
    by (id_of h == id) refl (nobody_takes setup k id others (λ other among same. none other (inr among) same))
  where
    by : (b : Bool) → (id_of h == id) ≡ b → taken_for setup k id others ≡ None →
        option_or (if b then take_for setup k h h.waiting.request else None) (taken_for setup k id others) ≡ None
    by true is rest = absurd (none h (inl refl) (eqb-true (id_of h) id is))
    by false is rest = rest

nobody_shows : (id : ℕ) (held : List Held) (top : Option TopVote) → ((h : Held) → In h held → id_of h ≡ id → ⊥) → shown_to id held top ≡ top
nobody_shows id [] top none = refl
nobody_shows id (h ∷ others) top none =
    by (id_of h == id) refl (nobody_shows id others top (λ other among same. none other (inr among) same))
  where
    by : (b : Bool) → (id_of h == id) ≡ b → shown_to id others top ≡ top →
        shown_to id others (if b then higher_top top h.top else top) ≡ top
    by true is rest = absurd (none h (inl refl) (eqb-true (id_of h) id is))
    by false is rest = rest

pub and_no : (b : Bool) → (b && false) ≡ false
and_no true = refl
and_no false = refl

none_so : (b : Bool) (start : Option Start) → start ≡ None → if_so b start ≡ None
none_so true start none = none
none_so false start none = refl

abbrev pub decree : Author → ℕ → Kind → Decree
decree author moment kind = record { author = author; moment = moment; kind = kind }

-- a fate, or a Told, is not deleted
pub fate_stays : (setup : Setup) (k : Kept) (id : ℕ) (held : List Held) (author : Author) (moment : ℕ) (final : Final) (error : ℕ) (older : List Decree)
    (taken : Option Submission) → delete_of setup k id held (decree author moment (Fate final error)) older taken ≡ None
fate_stays setup k id held author moment final error older None = refl
fate_stays setup k id held author moment final error older (Some taken) = refl

pub told_stays : (setup : Setup) (k : Kept) (id : ℕ) (held : List Held) (author : Author) (moment : ℕ) (older : List Decree) (taken : Option Submission) →
    delete_of setup k id held (decree author moment Told) older taken ≡ None
told_stays setup k id held author moment older None = refl
told_stays setup k id held author moment older (Some taken) = refl

pub not_announced : (setup : Setup) (k : Kept) (taken : Submission) (author : Author) (moment : ℕ) (final : Final) (error : ℕ) (older : List Decree) →
    is_asked final taken ≡ false →
    announced setup k taken (decree author moment (Fate final error)) older (Fate final error) ≡ None
not_announced setup k taken author moment final error older unasked =
    let both : ((setup.node == home_in (decree author moment (Fate final error) ∷ older)) && is_asked final taken) ≡ false =
    ap (λ (b : Bool). (setup.node == home_in (decree author moment (Fate final error) ∷ older)) && b) unasked
    ∙ and_no (setup.node == home_in (decree author moment (Fate final error) ∷ older)) in
    ap (λ (b : Bool). if b then Some (start_behind setup k (decree author moment (Fate final error)) older Told) else None) both

no_own : (setup : Setup) (k : Kept) (reach : Reach) (id : ℕ) (author : Author) (moment : ℕ) (kind : Kind) (older : List Decree)
    (taken : Option Submission) → is_last taken kind ≡ true → own_rule setup k reach id (decree author moment kind) older taken ≡ None
no_own setup k reach id author moment (Taken message) older taken over = absurd (cc)
no_own setup k reach id author moment (Attempt number) older taken over = absurd (cc)
no_own setup k reach id author moment (Failed error) older taken over = absurd (cc)
no_own setup k reach id author moment (Fate final error) older None over = refl
no_own setup k reach id author moment (Fate final error) older (Some taken) over =
    let d = fate_stays setup k id k.held author moment final error older (taken_in (decree author moment (Fate final error) ∷ older)) in
    let t = none_so (may_begin reach id taken.target) None refl in
    let a = not_announced setup k taken author moment final error older (not-true (is_asked final taken) over) in
    λ i. option_or (fitting Delete (d i)) (option_or (fitting Expire None) (option_or (fitting Undeliver None)
    (option_or (fitting Try (t i)) (fitting Announce (a i)))))
no_own setup k reach id author moment Told older None over = refl
no_own setup k reach id author moment Told older (Some taken) over =
    let d = told_stays setup k id k.held author moment older (taken_in (decree author moment Told ∷ older)) in
    let t = none_so (may_begin reach id taken.target) None refl in
    λ i. option_or (fitting Delete (d i)) (option_or (fitting Expire None) (option_or (fitting Undeliver None)
    (option_or (fitting Try (t i)) (fitting Announce None))))

pub no_known : (setup : Setup) (k : Kept) (reach : Reach) (id : ℕ) (chain : List Decree) → is_over chain ≡ true →
    known_rule setup k reach id (Some chain) ≡ None
no_known setup k reach id [] over = absurd (cc)
no_known setup k reach id (newest ∷ older) over = no_own setup k reach id newest.author newest.moment newest.kind older (taken_in (newest ∷ older)) over

pub no_rule : (setup : Setup) (k : Kept) (reach : Reach) (id : ℕ) → IsAtRest k id → first_rule setup k reach id ≡ None
no_rule setup k reach id rest =
    let t = nobody_takes setup k id k.held rest.unasked in
    let f : followed k id ≡ None =
    (λ i. follow (rest.known i) (nobody_shows id k.held (told_of k.records id) rest.unasked i)) ∙ rest.reached in
    let r : known_rule setup k reach id (message_at k id).known ≡ None =
    ap (known_rule setup k reach id) rest.known ∙ no_known setup k reach id rest.chain rest.over in
    λ i. option_or (fitting Take (t i)) (option_or (fitting Follow (f i)) (r i))

pub no_attempt : (setup : Setup) (k : Kept) (id : ℕ) (chain : List Decree) → is_over chain ≡ true →
    known_refusal setup k (message_at k id) (Some chain) ≡ Some NotChosen
no_attempt setup k id [] over = absurd (cc)
no_attempt setup k id (newest ∷ older) over = by newest.kind over
  where
    by : (kind : Kind) → is_last (taken_in (decree newest.author newest.moment kind ∷ older)) kind ≡ true →
        known_refusal setup k (message_at k id) (Some (decree newest.author newest.moment kind ∷ older)) ≡ Some NotChosen
    by (Taken message) is = refl
    by (Attempt number) is = absurd (cc)
    by (Failed error) is = refl
    by (Fate final error) is = refl
    by Told is = refl

pub no_grant : (setup : Setup) (k : Kept) (id : ℕ) → IsAtRest k id → grant_refusal setup k id ≡ Some NotChosen
no_grant setup k id rest = ap (known_refusal setup k (message_at k id)) rest.known ∙ no_attempt setup k id rest.chain rest.over
