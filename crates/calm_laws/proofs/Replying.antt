-- A reply goes out on the session that holds its request, which leaves its window.
use Rattle.std.proofs.Common.{◌≡◌, ◌⊎◌, ℕ, Bool, true, cond, List, [], ◌∷◌, ◌++◌, Option, Some, None, inl, inr, refl, sym, ◌∙◌, ap, subst}
use Rattle.std.specs.Prelude.{◌==◌, find}
use Rattle.std.specs.List.{AllByRecursion}
use Rattle.std.specs.Ordering.{nat_cmp}
use Rattle.std.specs.Map.{lookup}
use Rattle.std.specs.BTreeMap.{is_at}
use Rattle.std.proofs.lemmas.Bool.{cases_eq, ne_eqb}
use Rattle.mc_model.specs.node.Outputs.{Reply}
use Rattle.table_laws.proofs.Frames.{eqb_self}
use Rattle.sessions.specs.Session.{Session}
use Rattle.sessions.specs.Steps.{on_reply}
use Rattle.sessions.specs.declared.request.OpenRequest.{OpenRequest}
use Rattle.script_text.specs.Prints.{Print}
use Rattle.script_text.specs.Runner.{Owned, Told, found_at, owner_of, replied, replied_at, reply_prints, session_in, session_or_opened, told}
use Rattle.calm_laws.proofs.Connected.{AreConnected, EntryIs, one_set, ours_at}
use Rattle.calm_laws.proofs.Entries.{apart}
use Rattle.calm_laws.proofs.Plain.{holding}
use Rattle.calm_laws.proofs.Standing.{Owes, requests_at}

module _ (theirs : List (ℕ × Session)) (owned : Owned) where
  -- ---- the session that holds the request

  -- by whether it is that session
  abbrev held_if : Bool → List OpenRequest
  held_if test = cond test (owned.request ∷ []) []

  held_here : requests_at (Some owned) owned.number ≡ owned.request ∷ []
  held_here = ap held_if (eqb_self owned.number)

  held_elsewhere : (other : ℕ) → (owned.number ≡ other → ⊥) → requests_at (Some owned) other ≡ []
  held_elsewhere other differ = ap held_if (ne_eqb owned.number other differ)

  module _ (ticket : ℕ) (is : ticket ≡ owned.request.ticket) where
    its_ticket : (owned.request.ticket == ticket) ≡ true
    its_ticket = subst (λ (t : ℕ). (owned.request.ticket == t) ≡ true) (sym is) (eqb_self owned.request.ticket)

    found_of : (requests : List OpenRequest) → requests ≡ owned.request ∷ [] → find (λ r. r.ticket == ticket) requests ≡ Some owned.request
    found_of requests only = ap (find (λ (r : OpenRequest). r.ticket == ticket)) only ∙ ap (λ (test : Bool). cond test (Some owned.request) None) its_ticket

    owner_is : (connected : List (ℕ × Session)) → AllByRecursion (EntryIs theirs (Some owned)) connected →
        (session_in connected owned.number).requests ≡ owned.request ∷ [] →
        owner_of connected ticket ≡ Some owned
    owner_is [] all holds = absurd cc
    owner_is (e ∷ es) all holds = at_id (cases_eq owned.number e.0) (owner_is es all.1)
      where
        at_id : (owned.number ≡ e.0) ⊎ (owned.number ≡ e.0 → ⊥) →
            ((session_in es owned.number).requests ≡ owned.request ∷ [] → owner_of es ticket ≡ Some owned) →
            found_at e.0 (find (λ request. request.ticket == ticket) e.1.requests) (owner_of es ticket) ≡ Some owned
        at_id (inl at) behind =
            let only : e.1.requests ≡ owned.request ∷ [] =
            ap (λ (s : Session). s.requests) all.0 ∙ subst (λ (n : ℕ). requests_at (Some owned) n ≡ owned.request ∷ []) at held_here in
            ap (λ (found : Option OpenRequest). found_at e.0 found (owner_of es ticket)) (found_of e.1.requests only)
            ∙ ap (λ (n : ℕ). Some (record owned { number = n })) (sym at)
        at_id (inr differ) behind =
            let later : session_in es owned.number ≡ session_in (e ∷ es) owned.number =
            ap (λ (test : Bool). session_or_opened (cond test (Some e.1) (lookup (is_at (nat_cmp owned.number)) es)))
            (sym (apart e.0 owned.number (λ at. differ (sym at)))) in
            ap (λ (requests : List OpenRequest). found_at e.0 (find (λ (request : OpenRequest). request.ticket == ticket) requests) (owner_of es ticket))
            (ap (λ (s : Session). s.requests) all.0 ∙ held_elsewhere e.0 differ)
            ∙ behind (ap (λ (s : Session). s.requests) later ∙ holds)

    -- ---- the request leaves its window

    module _ (connected : List (ℕ × Session)) (were : AreConnected theirs (Some owned) connected) where
      only_waits : (session_in connected owned.number).requests ≡ owned.request ∷ []
      only_waits = ap (λ (s : Session). s.requests) (were.each owned.number) ∙ held_here

      left_is : (session : Session) → lookup (is_at (nat_cmp owned.number)) connected ≡ Some session →
          on_reply session ticket ≡ ours_at theirs None owned.number
      left_is session found =
          let session_is : session ≡ holding (session_in theirs owned.number) (owned.request ∷ []) =
          sym (ap session_or_opened found) ∙ were.each owned.number ∙ ap (holding (session_in theirs owned.number)) held_here in
          ap (λ (s : Session). on_reply s ticket) session_is
          ∙ ap (λ (test : Bool). holding (session_in theirs owned.number) (cond test [] (owned.request ∷ []))) its_ticket

      replied_by : (found : Option Session) → lookup (is_at (nat_cmp owned.number)) connected ≡ found →
          (session_or_opened found).requests ≡ owned.request ∷ [] →
          AreConnected theirs None (replied_at connected owned.number ticket found)
      replied_by None found waits = absurd cc
      replied_by (Some session) found waits =
          one_set theirs theirs (Some owned) None connected owned.number (on_reply session ticket) (left_is session found)
          (λ other differ. ap (holding (session_in theirs other)) (held_elsewhere other differ)) were session found

      replied_connected : AreConnected theirs None (replied connected ticket (Some owned))
      replied_connected = replied_by (lookup (is_at (nat_cmp owned.number)) connected) refl only_waits

-- ---- the one reply

-- replies have gone out: nothing waits, and this was owed
abbrev HasAll : List (ℕ × Session) → List Print → Told → Type 0
HasAll theirs owed done = AreConnected theirs None done.next × (done.prints ≡ owed)

pub owed_told : (theirs connected : List (ℕ × Session)) (replies : List Reply) (holds : Option Owned) (owed : List Print) →
    Owes replies holds owed → AreConnected theirs holds connected →
    AreConnected theirs None (told connected replies).next × ((told connected replies).prints ≡ owed)
unfolding told
owed_told theirs connected replies None owed owes were =
    subst (λ (rs : List Reply). HasAll theirs owed (told connected rs)) (sym owes.0) (were, sym owes.1)
owed_told theirs connected replies (Some owned) owed owes were =
    let (reply, only, ticket, prints) = owes in
    let owner = owner_is theirs owned reply.ticket ticket connected were.entries (only_waits theirs owned reply.ticket ticket connected were) in
    subst (λ (rs : List Reply). HasAll theirs owed (told connected rs)) (sym only)
    (subst (λ (o : Option Owned). AreConnected theirs None (replied connected reply.ticket o) × ((reply_prints reply o ++ []) ≡ owed)) (sym owner)
    (replied_connected theirs owned reply.ticket ticket connected were, sym prints))
