-- The second rule of a tick: a vote stands beyond what is known, told to a request that waits, or the node's own.
use Rattle.std.proofs.Common.{◌≡◌, ◌⊎◌, ℕ, pred, ◌<◌, ◌≤◌, Bool, true, false, List, [], ◌∷◌, length, map, Option, Some, None, refl, sym, ap, subst, ◌∙◌, inl}
use Rattle.std.proofs.Common.{inr, arith, eqb-true}
use Rattle.std.specs.Prelude.{◌==◌, if◌then◌else◌}
use Rattle.std.specs.Bool.{Decides}
use Rattle.std.proofs.lemmas.Bool.{eqb-false, true≢false, cases_lt}
use Rattle.std.proofs.lemmas.Bool.Decides.{Decides-and, Decides-eqb, Decides-ltb, Decides-or}
use Rattle.mc_model.specs.message.Decree.{Decree}
use Rattle.mc_model.specs.synod.Lists.{In}
use Rattle.mc_model.specs.synod.OneSlot.{Vote}
use Rattle.mc_model.specs.synod.Packet.{Name, Slot, Tell, TopVote, slot_at, top_at}
use Rattle.mc_model.specs.synod.Acceptor.{IsTold, Records, SlotRecord}
use Rattle.mc_model.specs.node.Actor.{Actor, Waiting, id_in, name_of}
use Rattle.mc_model.specs.node.Knowledge.{IsKnown}
use Rattle.mc_model.specs.node.Rules.{FitsFollow, IsAhead, IsHighest, IsShownAt, ToldBy}
use Rattle.mc_model.specs.node.Setup.{Setup}
use Rattle.mc_parts.proofs.Known.{knows_one}
use Rattle.node_model.specs.Acceptor.{told_of}
use Rattle.node_model.specs.Kept.{Held, Kept, message_at}
use Rattle.node_model.specs.Requests.{higher_top, id_of, is_higher}
use Rattle.node_model.specs.Starts.{follow, is_ahead}
use Rattle.node_model.specs.Rules.{followed, shown_to}
use Rattle.node_model.specs.Acceptor.{ArePlaced}
use Rattle.node_laws.specs.Stands.{IsHeld, IsHighestTold}
use Rattle.node_model.proofs.Told.{told_is}
use Rattle.node_laws.proofs.invariant.Held.{kept_as, waits_among}
use Rattle.node_laws.proofs.invariant.Decided.{Decided}

-- ---- the highest of the votes that are shown

abbrev pub HighestOf : Option TopVote → (ℕ → Vote → Type 0) → Type 0
HighestOf None Shown = (place : ℕ) (vote : Vote) → Shown place vote → ⊥
HighestOf (Some top) Shown = IsHighest Shown top.place top.vote

pub higher_decides : (new old : TopVote) →
    Decides (is_higher new old) ((old.place < new.place) ⊎ ((old.place ≡ new.place) × (old.vote.ballot < new.vote.ballot)))
higher_decides new old =
    Decides-or _ _ (Decides-ltb old.place new.place) (Decides-and _ _ (Decides-eqb old.place new.place) (Decides-ltb old.vote.ballot new.vote.ballot))

module _ (P Q : ℕ → Vote → Type 0) where
  pub highest_as : (top : Option TopVote) → ((place : ℕ) (vote : Vote) → P place vote → Q place vote) →
      ((place : ℕ) (vote : Vote) → Q place vote → P place vote) → HighestOf top P → HighestOf top Q
  highest_as None there back none = λ place vote shown. none place vote (back place vote shown)
  highest_as (Some top) there back is = record {
    shown = there top.place top.vote is.shown;
    place_most = λ other held shown. is.place_most other held (back other held shown);
    ballot_most = λ held shown. is.ballot_most held (back top.place held shown);
  }

  abbrev Either : ℕ → Vote → Type 0
  Either place vote = P place vote ⊎ Q place vote

  newer : (old new : TopVote) → IsHighest P old.place old.vote → IsHighest Q new.place new.vote →
      (old.place < new.place) ⊎ ((old.place ≡ new.place) × (old.vote.ballot < new.vote.ballot)) → IsHighest Either new.place new.vote
  newer old new one other (inl below) = record {
    shown = inr other.shown;
    place_most = λ place held shown. elim shown [
      | inl first ↦ let most = one.place_most place held first in omega arith
      | inr second ↦ other.place_most place held second
    ];
    ballot_most = λ held shown. elim shown [
      | inl first ↦ let most = one.place_most new.place held first in absurd (omega arith)
      | inr second ↦ other.ballot_most held second
    ];
  }
  newer old new one other (inr at) = record {
    shown = inr other.shown;
    place_most = λ place held shown. elim shown [
      | inl first ↦ let most = one.place_most place held first in let same = at.0 in omega arith
      | inr second ↦ other.place_most place held second
    ];
    ballot_most = λ held shown. elim shown [
      | inl first ↦
          let most = one.ballot_most held (subst (λ (p : ℕ). P p held) (sym at.0) first) in
          let below = at.1 in
          omega arith
      | inr second ↦ other.ballot_most held second
    ];
  }

  older : (old new : TopVote) → IsHighest P old.place old.vote → IsHighest Q new.place new.vote →
      ((old.place < new.place) ⊎ ((old.place ≡ new.place) × (old.vote.ballot < new.vote.ballot)) → ⊥) → IsHighest Either old.place old.vote
  older old new one other not_newer = record {
    shown = inl one.shown;
    place_most = λ place held shown. elim shown [
      | inl first ↦ one.place_most place held first
      | inr second ↦ let most = other.place_most place held second in let far = place_far in omega arith
    ];
    ballot_most = λ held shown. elim shown [
      | inl first ↦ one.ballot_most held first
      | inr second ↦ at_place held second (cases_lt old.place new.place)
    ];
  }
    where
      place_far : new.place ≤ old.place
      place_far = elim (cases_lt old.place new.place) [ inl below ↦ absurd (not_newer (inl below)) | inr from ↦ from ]

      at_place : (held : Vote) → Q old.place held → (old.place < new.place) ⊎ (new.place ≤ old.place) → held.ballot ≤ old.vote.ballot
      at_place held second (inl below) = absurd (not_newer (inl below))
      at_place held second (inr from) =
          let most = other.place_most old.place held second in
          let same : old.place ≡ new.place = omega arith in
          let below = other.ballot_most held (subst (λ (p : ℕ). Q p held) same second) in
          elim (cases_lt old.vote.ballot new.vote.ballot) [
            | inl above ↦ absurd (not_newer (inr (same, above)))
            | inr most ↦ omega arith
          ]

  pub either_highest : (one other : Option TopVote) → HighestOf one P → HighestOf other Q → HighestOf (higher_top one other) Either
  either_highest None None none_first none = λ place vote shown. elim shown [ inl first ↦ none_first place vote first | inr second ↦ none place vote second ]
  either_highest (Some old) None is none = record {
    shown = inl is.shown;
    place_most = λ place held shown. elim shown [ inl first ↦ is.place_most place held first | inr second ↦ absurd (none place held second) ];
    ballot_most = λ held shown. elim shown [ inl first ↦ is.ballot_most held first | inr second ↦ absurd (none old.place held second) ];
  }
  either_highest None (Some new) none is = record {
    shown = inr is.shown;
    place_most = λ place held shown. elim shown [ inl first ↦ absurd (none place held first) | inr second ↦ is.place_most place held second ];
    ballot_most = λ held shown. elim shown [ inl first ↦ absurd (none new.place held first) | inr second ↦ is.ballot_most held second ];
  }
  either_highest (Some old) (Some new) one other = by_test (is_higher new old) refl
    where
      by_test : (test : Bool) → is_higher new old ≡ test → HighestOf (if test then Some new else Some old) Either
      by_test true is = newer old new one other ((higher_decides new old).0 is)
      by_test false is = older old new one other (λ holds. true≢false (sym ((higher_decides new old).1 holds) ∙ is))

-- ---- of what was told, and of the node's own votes

-- to the questions of a name, which are all of this message
module _ (a : Actor) (name : Name) (id : ℕ) (about : (teller : ℕ) (told : TopVote) → In (Tell teller name (Some told)) a.received → told.id ≡ id) where
  top_is : (top : TopVote) → top.id ≡ id → top_at (slot_at id top.place) top.vote ≡ top
  top_is top same = λ i. record { id = sym same i; place = top.place; vote = top.vote }

  pub told_highest : (top : Option TopVote) → IsHighestTold a.received name top → HighestOf top (ToldBy a name id)
  told_highest None none = λ place vote shown. none shown.teller (top_at (slot_at id place) vote) shown.heard
  told_highest (Some top) highest = record {
    shown = record {
      teller = highest.told.0;
      heard = subst (λ (it : TopVote). In (Tell highest.told.0 name (Some it)) a.received)
          (sym (top_is top (about highest.told.0 top highest.told.1))) highest.told.1;
    };
    place_most = λ place vote shown. elim (highest.highest shown.teller (top_at (slot_at id place) vote) shown.heard) [
      | inl below ↦ omega arith
      | inr at ↦ let same = at.0 in omega arith
    ];
    ballot_most = λ vote shown. elim (highest.highest shown.teller (top_at (slot_at id top.place) vote) shown.heard) [
      | inl below ↦ absurd (omega arith)
      | inr at ↦ at.1
    ];
  }

module _ (node : ℕ) (a : Actor) (id : ℕ) where
  -- to the questions of this request, if it is of the message
  record ToldTo (h : Held) (place : ℕ) (vote : Vote) : Type 0 where
    about : id_of h ≡ id
    told : ToldBy a (name_of node a h.waiting) id place vote

  record ToldAmong (held : List Held) (place : ℕ) (vote : Vote) : Type 0 where
    request : Held
    among : In request held
    told : ToldTo request place vote

  told_to_highest : (h : Held) → IsHeld a.received (name_of node a h.waiting) h → id_of h ≡ id → HighestOf h.top (ToldTo h)
  told_to_highest h is about =
      highest_as (ToldBy a (name_of node a h.waiting) id) (ToldTo h) h.top (λ place vote told. record { about = about; told = told })
      (λ place vote shown. shown.told)
      (told_highest a (name_of node a h.waiting) id (λ teller told heard. is.about teller told heard ∙ about) h.top is.top)

  one_highest : (base : Option TopVote) (Base : ℕ → Vote → Type 0) (h : Held) → IsHeld a.received (name_of node a h.waiting) h → HighestOf base Base →
      HighestOf (if id_of h == id then higher_top base h.top else base) (λ place vote. Base place vote ⊎ ToldTo h place vote)
  one_highest base Base h is before = by_test (id_of h == id) refl
    where
      by_test : (test : Bool) → (id_of h == id) ≡ test →
          HighestOf (if test then higher_top base h.top else base) (λ place vote. Base place vote ⊎ ToldTo h place vote)
      by_test true same = either_highest Base (ToldTo h) base h.top before (told_to_highest h is (eqb-true (id_of h) id same))
      by_test false differs =
          highest_as Base (λ place vote. Base place vote ⊎ ToldTo h place vote) base (λ place vote shown. inl shown)
          (λ place vote shown. elim shown [ inl first ↦ first | inr second ↦ absurd (eqb-false (id_of h) id differs second.about) ])
          before

  shown_highest : (held : List Held) → ((h : Held) → In h held → IsHeld a.received (name_of node a h.waiting) h) →
      (base : Option TopVote) (Base : ℕ → Vote → Type 0) → HighestOf base Base →
      HighestOf (shown_to id held base) (λ place vote. Base place vote ⊎ ToldAmong held place vote)
  shown_highest [] each base Base before =
      highest_as Base (λ place vote. Base place vote ⊎ ToldAmong [] place vote) base (λ place vote shown. inl shown)
      (λ place vote shown. elim shown [ inl first ↦ first | inr second ↦ absurd second.among ])
      before
  shown_highest (h ∷ others) each base Base before =
      highest_as (λ place vote. With place vote ⊎ ToldAmong others place vote) (λ place vote. Base place vote ⊎ ToldAmong (h ∷ others) place vote)
      (shown_to id (h ∷ others) base)
      there
      back
      (shown_highest others (λ it among. each it (inr among)) (if id_of h == id then higher_top base h.top else base) With
      (one_highest base Base h (each h (inl refl)) before))
    where
      With : ℕ → Vote → Type 0
      With place vote = Base place vote ⊎ ToldTo h place vote

      there : (place : ℕ) (vote : Vote) → With place vote ⊎ ToldAmong others place vote → Base place vote ⊎ ToldAmong (h ∷ others) place vote
      there place vote (inl (inl first)) = inl first
      there place vote (inl (inr told)) = inr (record { request = h; among = inl refl; told = told })
      there place vote (inr later) = inr (record { request = later.request; among = inr later.among; told = later.told })

      which : (place : ℕ) (vote : Vote) (request : Held) → (request ≡ h) ⊎ In request others → ToldTo request place vote →
          With place vote ⊎ ToldAmong others place vote
      which place vote request (inl same) told = inl (inr (subst (λ (x : Held). ToldTo x place vote) same told))
      which place vote request (inr later) told = inr (record { request = request; among = later; told = told })

      back : (place : ℕ) (vote : Vote) → Base place vote ⊎ ToldAmong (h ∷ others) place vote → With place vote ⊎ ToldAmong others place vote
      back place vote (inl first) = inl (inl first)
      back place vote (inr told) = which place vote told.request told.among told.told

-- the vote that the acceptor tells of is the highest of its own
own_highest : (records : Records) (id : ℕ) (told : Option TopVote) → IsTold records id told →
    HighestOf told (λ place vote. (records (slot_at id place)).vote ≡ Some vote)
own_highest records id None none = λ place vote voted. let both : Some vote ≡ None = sym voted ∙ none place in absurd (cc)
own_highest records id (Some top) is = record {
  shown = is.voted;
  place_most = λ place vote voted. is.highest place vote voted;
  ballot_most = λ vote voted.
      let both : Some vote ≡ Some top.vote = sym voted ∙ is.voted in
      let same : vote ≡ top.vote = cc in
      let ballots : vote.ballot ≡ top.vote.ballot = ap (λ (v : Vote). v.ballot) same in
      omega arith;
}

-- ---- the rule

pub ahead_decides : (nodes id : ℕ) (a : Actor) (chain : Option (List Decree)) (place : ℕ) → IsKnown nodes a.received id chain →
    Decides (is_ahead chain place) (IsAhead nodes a id place)
ahead_decides nodes id a None place nothing = ((λ t. λ chain knows. absurd (nothing _ _ knows.learned)), (λ ahead. refl))
ahead_decides nodes id a (Some chain) place knows = (
  λ t. λ other knows_other.
      let same : other ≡ chain = knows_one nodes a.received id other chain knows_other knows in
      subst (λ (c : List Decree). pred (length c) < place) (sym same) ((Decides-ltb (pred (length chain)) place).0 t),
  λ ahead. (Decides-ltb (pred (length chain)) place).1 (ahead chain knows),
)

module _ (setup : Setup) (a : Actor) (records : Records) (k : Kept) (id : ℕ)
    (same_records : (slot : Slot) → k.records slot ≡ records slot) (placed : ArePlaced k.records)
    (waiting : map (λ h. h.waiting) k.held ≡ a.waiting)
    (told : (h : Held) → In h k.held → IsHeld a.received (name_of setup.node a h.waiting) h)
    (known : IsKnown setup.nodes a.received id (message_at k id).known) where
  abbrev Shown : ℕ → Vote → Type 0
  Shown = IsShownAt setup.node a records id

  abbrev top : Option TopVote
  top = shown_to id k.held (told_of k.records id)

  shown_is : HighestOf top Shown
  shown_is =
      highest_as (λ place vote. ((k.records (slot_at id place)).vote ≡ Some vote) ⊎ ToldAmong setup.node a id k.held place vote) Shown top there back
      (shown_highest setup.node a id k.held told (told_of k.records id) (λ place vote. (k.records (slot_at id place)).vote ≡ Some vote)
      (own_highest k.records id (told_of k.records id) (told_is k.records id placed)))
    where
      there : (place : ℕ) (vote : Vote) → ((k.records (slot_at id place)).vote ≡ Some vote) ⊎ ToldAmong setup.node a id k.held place vote → Shown place vote
      there place vote (inl voted) = inr (ap (λ (r : SlotRecord). r.vote) (sym (same_records (slot_at id place))) ∙ voted)
      there place vote (inr told) = inl (record {
        waiting = told.request.waiting;
        waits = subst (λ (ws : List Waiting). In told.request.waiting ws) waiting (waits_among k.held told.request told.among);
        about = told.told.about;
        told = told.told.told;
      })

      back : (place : ℕ) (vote : Vote) → Shown place vote → ((k.records (slot_at id place)).vote ≡ Some vote) ⊎ ToldAmong setup.node a id k.held place vote
      back place vote (inr voted) = inl (ap (λ (r : SlotRecord). r.vote) (same_records (slot_at id place)) ∙ voted)
      back place vote (inl was) =
          let kept = kept_as k.held was.waiting (subst (λ (ws : List Waiting). In was.waiting ws) (sym waiting) was.waits) in
          inr (record {
            request = kept.request;
            among = kept.among;
            told = record {
              about = ap (λ (w : Waiting). id_in w.request) kept.same ∙ was.about;
              told = subst (λ (w : Waiting). ToldBy a (name_of setup.node a w) id place vote) (sym kept.same) was.told;
            };
          })

  abbrev Fits : ℕ → List Decree → Type 0
  Fits = FitsFollow setup.nodes setup.node a records id

  pub follow_decided : Decided (followed k id) Fits
  follow_decided = by_top top shown_is
    where
      by_ahead : (it : TopVote) → IsHighest Shown it.place it.vote → (test : Bool) → is_ahead (message_at k id).known it.place ≡ test →
          Decided (if test then Some (record { place = it.place; chain = it.vote.chain }) else None) Fits
      by_ahead it highest true ahead = record {
        vote = it.vote;
        highest = highest;
        ahead = (ahead_decides setup.nodes id a (message_at k id).known it.place known).0 ahead;
        chain_is = refl;
      }
      by_ahead it highest false behind = λ place chain fits.
          let most = highest.place_most place fits.vote fits.highest.shown in
          let least = fits.highest.place_most it.place it.vote highest.shown in
          let same : place ≡ it.place = omega arith in
          let ahead : IsAhead setup.nodes a id it.place = subst (λ (p : ℕ). IsAhead setup.nodes a id p) same fits.ahead in
          true≢false (sym ((ahead_decides setup.nodes id a (message_at k id).known it.place known).1 ahead) ∙ behind)

      by_top : (it : Option TopVote) → HighestOf it Shown → Decided (follow (message_at k id).known it) Fits
      by_top None none = λ place chain fits. none place fits.vote fits.highest.shown
      by_top (Some it) highest = by_ahead it highest (is_ahead (message_at k id).known it.place) refl
