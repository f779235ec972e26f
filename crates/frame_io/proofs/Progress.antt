-- What came so far.
use Rattle.std.proofs.Common.{◌≡◌, ◌⊎◌, ◌+◌, ◌<◌, ◌++◌, ℕ, Bool, true, false, Result, Ok, Err, IfErr, List, [], ◌∷◌, length, Option, inl, inr, refl, sym, ap, subst, ◌∙◌, append_assoc}
use Rattle.std.proofs.lemmas.List.{append-nil}
use Rattle.std.specs.Io.KnownBytes.{Consumes}
use Rattle.octet_io.specs.Reads.{Ends, Fails, GoesOn, Reads, TellsEnd, most_reads}
use Rattle.octet_io.proofs.KnownOctets.{consumed_none, consumed_on}
use Rattle.pdu_frames.specs.Frames.{HasWrongLength, IsFrame, IsPart}
use Rattle.frame_io.specs.declared.fault.FrameFault.{FrameFault}
use Rattle.frame_io.specs.declared.fault.FrameFault.TheVariants as faults
use Rattle.frame_io.specs.Frames.{GivesMore, HasCome, Held, IsCut, IsGiven, IsOver, IsRead, IsStopped, IsUnmoved, IsWrong}

module _ {R : Type 0} (remaining : R → Option (List ℕ)) where
  -- these octets came by reads of which none failed and none told the end, and are held behind those that were
  pub record Progress (before after : Reads R) (old held : List ℕ) : Type 0 where
    pub octets : List ℕ
    pub consumed : Consumes (remaining before.reader) (remaining after.reader) octets
    pub held_is : held ≡ old ++ octets
    pub reads : GoesOn before after

  pub begins : (before : Reads R) (old : List ℕ) → Progress before before old old
  begins before old = record {
    octets = [];
    consumed = consumed_none (remaining before.reader);
    held_is = sym (append-nil old);
    reads = record { failures = refl; ends = refl };
  }

  pub goes_on : (before now after : Reads R) (old held next : List ℕ) → Progress before now old held → GivesMore remaining now after held next →
      Progress before after old next
  goes_on before now after old held next so more = record {
    octets = so.octets ++ more.octets;
    consumed = consumed_on (remaining before.reader) (remaining now.reader) (remaining after.reader) so.octets more.octets so.consumed more.gives.consumed;
    held_is = more.held ∙ ap (λ (xs : List ℕ). xs ++ more.octets) so.held_is ∙ append_assoc old so.octets more.octets;
    reads = record {
      failures = more.gives.goes_on.failures ∙ so.reads.failures;
      ends = more.gives.goes_on.ends ∙ so.reads.ends;
    };
  }

  -- ---- what comes of it

  module _ (before now : Reads R) (old new : Held) (so : Progress before now old.octets new.octets) (kept : new.into ≡ old.into) where
    pub come : HasCome remaining before now old new so.octets
    come = record { consumed = so.consumed; held = so.held_is; kept = kept }

    pub wrong : HasWrongLength new.octets → IsWrong remaining before now old new
    wrong is = record { octets = so.octets; come = come; wrong = is; reads = so.reads }

    pub unmoved : IsFrame new.octets → old.room < length new.octets → IsUnmoved remaining before now old new
    unmoved is full = record { octets = so.octets; come = come; frame = is; full = full; reads = so.reads }

  pub given : (before now : Reads R) (old new : Held) (held : List ℕ) → Progress before now old.octets held → IsFrame held → new.into ≡ held →
      new.octets ≡ [] → IsGiven remaining before now old new
  given before now old new held so frame into none = record {
    octets = so.octets;
    consumed = so.consumed;
    frame = subst IsFrame so.held_is frame;
    given = into ∙ so.held_is;
    none = none;
    reads = so.reads;
  }

  -- a last read, which gave nothing
  behind : (before now after : Reads R) (octets : List ℕ) → Consumes (remaining before.reader) (remaining now.reader) octets →
      Consumes (remaining now.reader) (remaining after.reader) [] → Consumes (remaining before.reader) (remaining after.reader) octets
  behind before now after octets first last =
      subst (λ (xs : List ℕ). Consumes (remaining before.reader) (remaining after.reader) xs) (append-nil octets)
      (consumed_on (remaining before.reader) (remaining now.reader) (remaining after.reader) octets [] first last)

  module _ (before now after : Reads R) (old new : Held) (so : Progress before now old.octets new.octets) (kept : new.into ≡ old.into) where
    ended : TellsEnd remaining now after → Ends before after
    ended tells = record {
      failures = tells.ends.failures ∙ so.reads.failures;
      ends = tells.ends.ends ∙ ap (λ (n : ℕ). n + 1) so.reads.ends;
    }

    come_by : Consumes (remaining now.reader) (remaining after.reader) [] → HasCome remaining before after old new so.octets
    come_by last = record { consumed = behind before now after so.octets so.consumed last; held = so.held_is; kept = kept }

    pub cut : TellsEnd remaining now after → IsPart new.octets → (new.octets ≡ [] → ⊥) → IsCut remaining before after old new
    cut tells part some = record {
      octets = so.octets;
      come = come_by tells.consumed;
      part = part;
      some = some;
      at_end = tells.at_end;
      reads = ended tells;
    }

    pub over : TellsEnd remaining now after → new.octets ≡ [] → IsOver remaining before after old new
    over tells none =
        let both = nothing_of old.octets so.octets (sym so.held_is ∙ none) in
        record {
          come = subst (λ (xs : List ℕ). HasCome remaining before after old new xs) both.1 (come_by tells.consumed);
          none = both.0;
          at_end = tells.at_end;
          reads = ended tells;
        }
      where
        nothing_of : (xs ys : List ℕ) → xs ++ ys ≡ [] → (xs ≡ []) × (ys ≡ [])
        nothing_of [] ys is = (refl, is)
        nothing_of (x ∷ xs) ys is = absurd cc

    -- the input ended while this is held
    pub at_end : TellsEnd remaining now after → IsPart new.octets → (result : Result Bool FrameFault) → (result ≡ Ok false → new.octets ≡ []) →
        (result ≡ Ok true → ⊥) → IfErr result (λ fault. (fault ≡ faults.Short) × (new.octets ≡ [] → ⊥)) → IsRead remaining before after old new result
    at_end tells part (Ok true) none some short = absurd (some refl)
    at_end tells part (Ok false) none some short = over tells (none refl)
    at_end tells part (Err fault) none some short =
        subst (λ (f : FrameFault). IsRead remaining before after old new (Err f)) (sym short.0) (cut tells part short.1)

    pub stopped_by : ((after ≡ now) × (now.reads ≡ most_reads)) ⊎ Fails remaining now after → IsPart new.octets → IsStopped remaining before after old new
    stopped_by (inl all) part = record {
      octets = so.octets;
      come = come_by (subst (λ (r : Reads R). Consumes (remaining now.reader) (remaining r.reader) []) (sym all.0) (consumed_none (remaining now.reader)));
      part = part;
      reads = record {
        failures = inr (ap (λ (r : Reads R). r.failures) all.0 ∙ so.reads.failures, ap (λ (r : Reads R). r.reads) all.0 ∙ all.1);
        ends = ap (λ (r : Reads R). r.ends) all.0 ∙ so.reads.ends;
      };
    }
    stopped_by (inr fails) part = record {
      octets = so.octets;
      come = come_by fails.consumed;
      part = part;
      reads = record {
        failures = inl (fails.failures ∙ ap (λ (n : ℕ). n + 1) so.reads.failures);
        ends = fails.ends ∙ so.reads.ends;
      };
    }
