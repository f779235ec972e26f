use Rattle.std.proofs.Common.{◌≡◌, List, ℕ, Bool, Ok, ap, sym, subst, ◌∙◌, arith}
use Rattle.octet_io.specs.Reads.{Reads}
use Rattle.pdu_frames.specs.Frames.{IsPart}
use Rattle.frame_io.proofs.Progress.{Progress, at_end, goes_on}
use Rattle.frame_io.proofs.reading.next_frame.Goals as goal

-- what is held may be named by what it was found to be
moved : {R : Type 0} (remaining : R → _) (before now : Reads R) (old held same : List ℕ) → same ≡ held → Progress remaining before now old held →
    Progress remaining before now old same
moved remaining before now old held same is so = subst (λ (h : List ℕ). Progress remaining before now old h) (sym is) so

pub returns-then-not-branch : goal.returns-then-not-branch
returns-then-not-branch g c =
    let part = c.take.ensures.part (c.in_ok-take.was ∙ ap (λ (b : Bool). Ok b) c.if-branch.false) in
    let tells = c.read_on.ensures.end (c.in_ok-read_on.was ∙ ap (λ (b : Bool). Ok b) c.if-not-branch.true) in
    let same : c.read_on.new.framer ≡ c.reads.framer = tells.1 ∙ part.1 in
    let into : c.take.new.into ≡ c.args.into.now = part.2 ∙ c.reads.invariant.1 in
    at_end g.R.Read.remaining c.args.reader.now c.reads.reader c.read_on.new.reader _ _
    (moved g.R.Read.remaining c.args.reader.now c.reads.reader c.args.framer.now c.reads.framer c.read_on.new.framer same c.reads.invariant.0)
    (λ i. (into i).items) tells.0 (subst IsPart (sym same) part.0) c.end.result c.end.ensures.over c.end.ensures.no_frame c.end.ensures.faults

pub reads-smaller : goal.reads-smaller
reads-smaller g c =
    let more = c.read_on.ensures.more (c.in_ok-read_on.was ∙ ap (λ (b : Bool). Ok b) c.if-not-branch.false) in
    omega (arith, more.gives.counted, c.read_on.ensures.most)

pub reads-preserved : goal.reads-preserved
reads-preserved g c =
    let part = c.take.ensures.part (c.in_ok-take.was ∙ ap (λ (b : Bool). Ok b) c.if-branch.false) in
    let more = c.read_on.ensures.more (c.in_ok-read_on.was ∙ ap (λ (b : Bool). Ok b) c.if-not-branch.false) in (
      goes_on g.R.Read.remaining c.args.reader.now c.reads.reader c.read_on.new.reader c.args.framer.now c.take.new.framer c.read_on.new.framer
          (moved g.R.Read.remaining c.args.reader.now c.reads.reader c.args.framer.now c.reads.framer c.take.new.framer part.1 c.reads.invariant.0) more,
      part.2 ∙ c.reads.invariant.1,
    )
