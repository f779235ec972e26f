use Rattle.std.proofs.Common.{◌≡◌, ◌<◌, List, Option, sym, ap, subst, ◌∙◌, arith}
use Rattle.std.specs.Prelude.{option_map}
use Rattle.synod_acceptor.specs.Packets.{packet_of}
use Rattle.synod_acceptor.specs.declared.packet.Packet.{Packet}
use Rattle.node_core.specs.Keeping.{kept_of}
use Rattle.node_core.specs.Stops.{IsUnknown}
use Rattle.journal_laws.specs.Journals.{IsOwnRun, Unfinished, steps_for}
use Rattle.journal_laws.specs.Taken.{started_anew}
use Rattle.journal_parts.specs.declared.post.Halted.{Halted}
use Rattle.journal_parts.specs.Entries.{save_of}
use Rattle.journal_parts.specs.Members.{halt_of, packet_halted, save_by}
use Rattle.journal_parts.proofs.Reopening.{anew}
use Rattle.journal_parts.proofs.post.Post.reopen.Goals as goal

pub returns-clause-ok : goal.returns-clause-ok
returns-clause-ok g c =
    let opens = c.in-Ok.ensures.ok in
    let last = c.incarnation.ensures in
    let before = c.number-last.ensures in
    let now = c.incarnation-2.ensures in
    let number = c.number.ensures in
    let above = c.if-number-last.false in
    let start = opens.opened.of_start in
    let was = c.requires.life.start_is in
    let later : c.args.self.now.node.kept.incarnation < c.reopen.new.self.kept.incarnation =
    omega (arith, last, before, now, number, above, start, was) in
    let save : option_map save_of c.unfinished_by.result ≡ save_by (option_map halt_of c.args.self.now.halted) c.reopen.new.self.stopped =
    c.unfinished_by.ensures
    ∙ (λ i. save_by (option_map halt_of (c.take-halted.ensures.value i)) (c.stopped.ensures i)) in
    record {
      setup = opens.opened.setup;
      unfinished = c.in-Ok.ensures.finished;
      halted = ap (λ (h : Option Halted). option_map halt_of h) c.take-halted.ensures.after;
      astray = c.requires.sound;
      doubt = opens.goes_on.doubt;
      runs = λ none given gives.
          subst (λ (s : Option Unfinished). IsOwnRun c.args.self.now.node.kept.setup (kept_of c.args.self.now.node.kept)
          (steps_for (started_anew c.args.self.now.node.kept.setup.node given
          (option_map packet_of (packet_halted (option_map halt_of c.args.self.now.halted)))) s) (kept_of c.reopen.new.self.kept)) (sym save)
          (anew g.S.StableStore.stored c.args.self.now.node c.reopen.new.self c.in-Ok.life
          (record {
            lists = c.lists.ensures.lists;
            left = λ left may. subst (λ (packets : List Packet). IsUnknown c.args.self.now.node.kept left c.args.self.now.node.unfinished packets)
                c.in-Ok.ensures.settled.0 (c.lists.ensures.left left may);
            opens = opens;
            told = c.in-Ok.ensures.told;
            bounds = c.bounds.ensures.incarnation;
            undoubted = none;
            later = later;
          }) given gives (option_map halt_of c.args.self.now.halted) c.requires.halts c.halted_well_made.ensures);
    }
