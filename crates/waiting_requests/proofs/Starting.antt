-- For which submit_sm a round starts.
use Rattle.std.proofs.Common.{◌≡◌, ℕ, Bool, true, false, cond, List, [], ◌∷◌, Option, Some, None, option_map, refl, sym, ap, ◌∙◌}
use Rattle.std.specs.Prelude.{◌==◌, if◌then◌else◌}
use Rattle.std.proofs.lemmas.Bool.Decides.{Decides-eqb}
use Rattle.std.specs.Option.{option_or}
use Rattle.mc_model.specs.message.Decree.{Taken}
use Rattle.mc_model.specs.node.Actor.{Cancel, Query, Request, Submit, id_in}
use Rattle.mc_model.specs.node.Setup.{Setup}
use Rattle.node_model.specs.Kept.{Held, Kept}
use Rattle.node_model.specs.Proposer.{Start}
use Rattle.node_model.specs.Requests.{id_of}
use Rattle.node_model.specs.Rules.{taken_for}
use Rattle.node_model.specs.Starts.{take_for}
use Rattle.waiting_requests.specs.Beginnings.{Begun}
use Rattle.waiting_requests.specs.Submits.{AreNumberedBy, IsNumberedBy, begun_in, begun_of, begun_start, first_begun}

map_or : {A B : Type 0} (f : A → B) (one other : Option A) → option_map f (option_or one other) ≡ option_or (option_map f one) (option_map f other)
map_or f None other = refl
map_or f (Some x) other = refl

taken_by : (setup : Setup) (k : Kept) (h : Held) (request : Request) → IsNumberedBy setup.node k.incarnation request →
    take_for setup k h request ≡ option_map begun_start (begun_in h.waiting.since request)
taken_by setup k h (Submit id message) by = λ i. Some (record {
  place = 0;
  chain = record { author = record { node = sym by.0 i; incarnation = sym by.1 i }; moment = h.waiting.since; kind = Taken message } ∷ [];
})
taken_by setup k h (Query id account source) by = refl
taken_by setup k h (Cancel id account source destination) by = refl

taken_if : (about : Bool) (take : Option Start) (begun : Option Begun) → take ≡ option_map begun_start begun →
    cond about take None ≡ option_map begun_start (cond about begun None)
taken_if true take begun same = same
taken_if false take begun same = refl

pub taken_first : (setup : Setup) (k : Kept) (id : ℕ) (hs : List Held) → AreNumberedBy setup.node k.incarnation hs →
    taken_for setup k id hs ≡ option_map begun_start (first_begun id hs)
taken_first setup k id [] by = refl
taken_first setup k id (h ∷ hs) by =
    (λ i. option_or (taken_if (id_of h == id) (take_for setup k h h.waiting.request) (begun_in h.waiting.since h.waiting.request)
    (taken_by setup k h h.waiting.request by.0) i) (taken_first setup k id hs by.1 i))
    ∙ sym (map_or begun_start (begun_of id h) (first_begun id hs))

-- what is begun for an id is of that id
begun_named : (since : ℕ) (request : Request) (b : Begun) → begun_in since request ≡ Some b → b.id ≡ id_in request
begun_named since (Submit id message) b is = let same : record { id = id; moment = since; message = message } ≡ b = cc in sym (ap (λ (x : Begun). x.id) same)
begun_named since (Query id account source) b is = absurd (cc)
begun_named since (Cancel id account source destination) b is = absurd (cc)

pub first_named : (id : ℕ) (hs : List Held) (b : Begun) → first_begun id hs ≡ Some b → b.id ≡ id
first_named id [] b is = absurd (cc)
first_named id (h ∷ hs) b is = by_test (id_of h == id) refl (first_named id hs b) is
  where
    by_first : (begun : Option Begun) → begun_in h.waiting.since h.waiting.request ≡ begun → (first_begun id hs ≡ Some b → b.id ≡ id) →
        option_or begun (first_begun id hs) ≡ Some b → id_of h ≡ id → b.id ≡ id
    by_first None none later is same = later is
    by_first (Some other) found later is same =
        let one : other ≡ b = cc in
        begun_named h.waiting.since h.waiting.request b (found ∙ ap (λ (x : Begun). Some x) one) ∙ same

    by_test : (test : Bool) → (id_of h == id) ≡ test → (first_begun id hs ≡ Some b → b.id ≡ id) →
        option_or (if test then begun_in h.waiting.since h.waiting.request else None) (first_begun id hs) ≡ Some b →
        b.id ≡ id
    by_test true about later is = by_first (begun_in h.waiting.since h.waiting.request) refl later is ((Decides-eqb (id_of h) id).0 about)
    by_test false apart later is = later is
