-- Nothing is due of an actor that knows no more, and at which no more requests wait, than of one of which nothing was due.
use Rattle.std.proofs.Common.{◌≡◌, ℕ, List, Option, Some, None, subst}
use Rattle.mc_model.specs.message.Decree.{Decree}
use Rattle.mc_model.specs.synod.Lists.{In}
use Rattle.mc_model.specs.synod.Packet.{Name}
use Rattle.mc_model.specs.node.Actor.{Actor, Cancel, Query, Request, Submit, Waiting, name_of}
use Rattle.mc_model.specs.node.Knowledge.{IsKnown, Knows}
use Rattle.mc_model.specs.node.Phases.{IsDueReply, IsToSettle}
use Rattle.mc_model.specs.node.Replies.{Accepted, Answer, FitsCancel, FitsQuery, FitsRequest, FitsSubmit, Kept, NotMatched, NotOwner, Removed, Shown, Unknown}
use Rattle.mc_model.specs.node.Settling.{IsSettled}
use Rattle.node_laws.specs.Stands.{IsQuiet}

module _ (nodes node : ℕ) (a b : Actor) (incarnation : b.incarnation ≡ a.incarnation)
    (known_back : (id : ℕ) (known : Option (List Decree)) → IsKnown nodes b.received id known → IsKnown nodes a.received id known)
    (settled_then : (name : Name) (known : Option (List Decree)) → IsSettled nodes b.received name known → IsSettled nodes a.received name known) where
  knows_back : (id : ℕ) (chain : List Decree) → Knows nodes b.received id chain → Knows nodes a.received id chain
  knows_back id chain = known_back id (Some chain)

  settled_back : (w : Waiting) (known : Option (List Decree)) → IsSettled nodes b.received (name_of node b w) known →
      IsSettled nodes a.received (name_of node a w) known
  settled_back w known settled =
      subst (λ (i : ℕ). IsSettled nodes a.received (record { node = node; incarnation = i; ticket = w.ticket }) known) incarnation
      (settled_then (name_of node b w) known settled)

  submit_back : (id : ℕ) (answer : Answer) → FitsSubmit nodes b id answer → FitsSubmit nodes a id answer
  submit_back id Accepted fits = record { chain = fits.chain; known = knows_back id fits.chain fits.known }
  submit_back id answer fits = absurd fits

  query_back : (w : Waiting) (account source : List ℕ) (answer : Answer) → FitsQuery nodes node b w account source answer →
      FitsQuery nodes node a w account source answer
  query_back w account source (Shown chain) fits = record {
    taken = fits.taken;
    known = knows_back _ chain fits.known;
    settled = settled_back w (Some chain) fits.settled;
    message = fits.message;
    owner = fits.owner;
  }
  query_back w account source NotOwner fits = record {
    chain = fits.chain;
    taken = fits.taken;
    known = knows_back _ fits.chain fits.known;
    settled = settled_back w (Some fits.chain) fits.settled;
    message = fits.message;
    other = fits.other;
  }
  query_back w account source Unknown fits = record { nothing = known_back _ None fits.nothing; settled = settled_back w None fits.settled }
  query_back w account source answer fits = absurd fits

  cancel_back : (w : Waiting) (account source destination : List ℕ) (answer : Answer) → FitsCancel nodes node b w account source destination answer →
      FitsCancel nodes node a w account source destination answer
  cancel_back w account source destination (Removed chain) fits = record {
    taken = fits.taken;
    known = knows_back _ chain fits.known;
    settled = fits.settled;
    message = fits.message;
    matched = fits.matched;
    deleted = fits.deleted;
  }
  cancel_back w account source destination (Kept chain) fits = record {
    taken = fits.taken;
    newest = fits.newest;
    older = fits.older;
    known = knows_back _ chain fits.known;
    settled = fits.settled;
    message = fits.message;
    matched = fits.matched;
    chain_is = fits.chain_is;
    kept = fits.kept;
  }
  cancel_back w account source destination (NotMatched chain) fits = record {
    taken = fits.taken;
    known = knows_back _ chain fits.known;
    settled = fits.settled;
    message = fits.message;
    other = fits.other;
  }
  cancel_back w account source destination Unknown fits = record { nothing = known_back _ None fits.nothing; settled = settled_back w None fits.settled }
  cancel_back w account source destination answer fits = absurd fits

  request_back : (w : Waiting) (request : Request) (answer : Answer) → FitsRequest nodes node b w request answer → FitsRequest nodes node a w request answer
  request_back w (Submit id message) answer fits = submit_back id answer fits
  request_back w (Query id account source) answer fits = query_back w account source answer fits
  request_back w (Cancel id account source destination) answer fits = cancel_back w account source destination answer fits

  module _ (waits_back : (w : Waiting) → In w b.waiting → In w a.waiting) where
    pub to_settle_back : (ticket : ℕ) → IsToSettle nodes node b ticket → IsToSettle nodes node a ticket
    to_settle_back ticket due = record {
      waiting = due.waiting;
      known = due.known;
      waits = waits_back due.waiting due.waits;
      ticket_is = due.ticket_is;
      cancel = due.cancel;
      unsettled = due.unsettled;
      knows = known_back _ due.known due.knows;
      settled = settled_back due.waiting due.known due.settled;
    }

    pub reply_back : (ticket id : ℕ) (answer : Answer) → IsDueReply nodes node b ticket id answer → IsDueReply nodes node a ticket id answer
    reply_back ticket id answer due = record {
      asked = record {
        waiting = due.asked.waiting;
        waits = waits_back due.asked.waiting due.asked.waits;
        ticket_is = due.asked.ticket_is;
        about = due.asked.about;
      };
      fits = request_back due.asked.waiting due.asked.waiting.request answer due.fits;
    }

    pub quiet_with : IsQuiet nodes node a → IsQuiet nodes node b
    quiet_with quiet = record {
      settled = λ ticket due. quiet.settled ticket (to_settle_back ticket due);
      answered = λ ticket id answer due. quiet.answered ticket id answer (reply_back ticket id answer due);
    }
