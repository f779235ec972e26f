-- The end of a session is put behind its response, up to where there was no memory.
use Rattle.std.proofs.Common.{◌≡◌, ℕ, List, [], ◌∷◌, ◌++◌, Result, Ok, Err, refl, sym, ap, subst}
use Rattle.std.specs.Prelude.{OnErr, OnOk}
use Rattle.std.specs.declared.alloc.AllocError.{AllocError}
use Rattle.sessions.specs.Responses.{pdu_of}
use Rattle.sessions.specs.declared.pushed.Pushed.{Pushed}
use Rattle.sessions.specs.declared.response.Outgoing.{Outgoing}
use Rattle.script_text.specs.Prints.{Print, AtOnce, Gone}
use Rattle.esme_site.specs.Heeding.{HasBegun, heeded_prints}
use Rattle.esme_site.specs.declared.heeded.Heeded.{Heeded}
use Rattle.esme_site.specs.declared.heeded.Heeded.TheVariants as heededs

module _ {O : Type 0} (puts : O → List Print → List ℕ → O → Type 0)
    (follows : (before between after : O) (first last : List Print) (lost more : List ℕ) → puts before first lost between → puts between last more after
    → puts before (first ++ last) (lost ++ more) after)
    (system_id : List ℕ) (number : ℕ) (came : Heeded) (outgoing : Outgoing) (abandoned : List Pushed) (is : came ≡ heededs.Gone outgoing abandoned)
    (before mid after : O) (responded : puts before (AtOnce number (pdu_of system_id outgoing) ∷ []) [] mid) where
  abbrev response : List Print
  response = AtOnce number (pdu_of system_id outgoing) ∷ []

  pub end_put : (r : Result (Unit {0}) AllocError) → OnOk r (puts mid (Gone number ∷ []) [] after)
      → OnOk r (puts before (heeded_prints system_id number came) [] after)
  end_put (Ok done) ended =
      subst (λ (h : Heeded). puts before (heeded_prints system_id number h) [] after) (sym is)
      (follows before mid after response (Gone number ∷ []) [] [] responded ended)
  end_put (Err fault) ended = tt

  pub end_begun : (r : Result (Unit {0}) AllocError) → OnErr r (puts mid [] [] after)
      → OnErr r (HasBegun puts (heeded_prints system_id number came) before after)
  end_begun (Ok done) none = tt
  end_begun (Err fault) none = record {
    put = response;
    unput = Gone number ∷ [];
    all = ap (heeded_prints system_id number) (sym is);
    did = follows before mid after response [] [] [] responded none;
  }

-- nothing was put
pub none_begun : {O : Type 0} (puts : O → List Print → List ℕ → O → Type 0) (prints : List Print) (before after : O) → puts before [] [] after
    → HasBegun puts prints before after
none_begun puts prints before after did = record { put = []; unput = prints; all = refl; did = did }
