-- What a node by itself delivers and prints as it settles, by what the settle of the model's node delivers.
use Rattle.std.proofs.Common.{◌≡◌, ◌⊎◌, ℕ, zero, suc, ◌<◌, List, [], ◌∷◌, ◌++◌, Option, Some, inl, inr, refl, sym, ◌∙◌, ap, subst, append_assoc, arith}
use Rattle.std.proofs.lemmas.List.{append-nil}
use Rattle.mc_model.specs.synod.Packet.{Packet}
use Rattle.mc_model.specs.node.Input.{Delivery}
use Rattle.mc_model.specs.node.Outputs.{Receipt, Reply}
use Rattle.mc_model.specs.node.Setup.{Setup}
use Rattle.node_model.specs.Kept.{Kept}
use Rattle.node_model.specs.Outputs.{Stepped}
use Rattle.node_model.specs.Stepped.{stepped}
use Rattle.table_laws.specs.Settling.{IsOrderly, Settling, delivered}
use Rattle.table_laws.proofs.Leading.{settling}
use Rattle.table_laws.proofs.Unmoved.{delivery_unmoved}
use Rattle.sessions.specs.Session.{Session}
use Rattle.script_text.specs.Left.{followed_by, in_front, rests}
use Rattle.script_text.specs.Prints.{Print}
use Rattle.script_text.specs.Receipts.{Mail, Posted, all_posted}
use Rattle.script_text.specs.Runner.{Acted, Runner, Told, owner_of, replied, reply_prints, told}
use Rattle.calm_laws.proofs.Queue.{and_settles, settles}
use Rattle.calm_laws.proofs.Posting.{posted_behind}

-- replies go out one after the other
pub told_behind : (connected : List (ℕ × Session)) (replies others : List Reply) →
    told connected (replies ++ others) ≡ in_front (told connected replies).prints (told (told connected replies).next others)
unfolding told
told_behind connected [] others = refl
told_behind connected (reply ∷ replies) others =
    let owner = owner_of connected reply.ticket in
    let next = replied connected reply.ticket owner in
    ap (in_front (reply_prints reply owner)) (told_behind next replies others)
    ∙ ap (λ (prints : List Print). let last = told (told next replies).next others in record last { prints = prints })
    (sym (append_assoc (reply_prints reply owner) (told next replies).prints (told (told next replies).next others).prints))

-- ---- what a delivery gives out

-- the sessions after replies
abbrev after_told : Mail → List Reply → Mail
after_told mail replies = record { sessions = (told mail.sessions replies).next; waiting = mail.waiting }

-- replies go out, and then receipts
abbrev pub handed : ℕ → Mail → List Reply → List Receipt → Posted
handed now mail replies receipts = record {
  next = (all_posted now (after_told mail replies) receipts).next;
  inputs = [];
  prints = (told mail.sessions replies).prints ++ (all_posted now (after_told mail replies) receipts).prints;
}

-- if no reply comes behind a receipt, all replies may go out first
handed_behind : (now : ℕ) (mail : Mail) (replies others : List Reply) (receipts later : List Receipt) → (receipts ≡ []) ⊎ (others ≡ []) →
    followed_by (handed now mail replies receipts) (handed now (handed now mail replies receipts).next others later)
    ≡ handed now mail (replies ++ others) (receipts ++ later)
unfolding told all_posted
handed_behind now mail replies others receipts later (inl none) =
    subst
    (λ (rs : List Receipt). followed_by (handed now mail replies rs) (handed now (handed now mail replies rs).next others later)
    ≡ handed now mail (replies ++ others) (rs ++ later))
    (sym none)
    (reordered ∙ ap with_told (sym (told_behind mail.sessions replies others)))
  where
    with_told : Told → Posted
    with_told t = record {
      next = (all_posted now (record { sessions = t.next; waiting = mail.waiting }) later).next;
      inputs = [];
      prints = t.prints ++ (all_posted now (record { sessions = t.next; waiting = mail.waiting }) later).prints;
    }

    first : Told
    first = told mail.sessions replies

    last : Posted
    last = all_posted now (after_told (after_told mail replies) others) later

    reordered : followed_by (handed now mail replies []) (handed now (handed now mail replies []).next others later)
        ≡ with_told (in_front first.prints (told first.next others))
    reordered = λ i. record {
      next = last.next;
      inputs = [];
      prints =
          (ap (λ (prints : List Print). prints ++ ((told first.next others).prints ++ last.prints)) (append-nil first.prints)
          ∙ sym (append_assoc first.prints (told first.next others).prints last.prints)) i;
    }
handed_behind now mail replies others receipts later (inr none) =
    subst
    (λ (rs : List Reply). followed_by (handed now mail replies receipts) (handed now (handed now mail replies receipts).next rs later)
    ≡ handed now mail (replies ++ rs) (receipts ++ later))
    (sym none)
    (reordered ∙ ap (λ (rs : List Reply). handed now mail rs (receipts ++ later)) (sym (append-nil replies)))
  where
    first : Told
    first = told mail.sessions replies

    with_posts : Posted → Posted
    with_posts posts = record { next = posts.next; inputs = []; prints = first.prints ++ posts.prints }

    middle : Posted
    middle = all_posted now (after_told mail replies) receipts

    last : Posted
    last = all_posted now middle.next later

    reordered : followed_by (handed now mail replies receipts) (handed now (handed now mail replies receipts).next [] later)
        ≡ handed now mail replies (receipts ++ later)
    reordered =
        (λ i. record { next = last.next; inputs = []; prints = append_assoc first.prints middle.prints last.prints i })
        ∙ ap with_posts (sym (posted_behind now (after_told mail replies) receipts later))

-- nothing stands behind a list that is the whole
none_behind : {A : Type 0} (front others : List A) → front ≡ front ++ others → others ≡ []
none_behind [] others is = sym is
none_behind (x ∷ front) others is = none_behind front others cc

-- ---- a settle

module _ (setup : Setup) (streams : List (ℕ × List ℕ)) (now : ℕ) where
  abbrev pub runner_at : Kept → List Packet → Mail → Runner
  runner_at k packets mail = record {
    node = record { setup = setup; kept = k; packets = packets };
    sessions = mail.sessions;
    streams = streams;
    waiting = mail.waiting;
  }

  -- After so many deliveries the node is as it is then by itself, and what it gave out in them has gone out.
  pub record Goes (deliveries : ℕ) (s : Settling) (mail : Mail) (acted : Acted) : Type 0 where
    pub replies : List Reply
    pub receipts : List Receipt
    pub replies_are : (delivered setup deliveries s).replies ≡ s.replies ++ replies
    pub receipts_are : (delivered setup deliveries s).receipts ≡ s.receipts ++ receipts
    pub next : acted.next ≡ runner_at (delivered setup deliveries s).kept [] (handed now mail replies receipts).next
    pub prints : acted.prints ≡ (handed now mail replies receipts).prints

  -- It settles, and goes so.
  pub record SettlesSo (deliveries : ℕ) (s : Settling) (mail : Mail) (found : Option Acted) : Type 0 where
    pub acted : Acted
    pub is : found ≡ Some acted
    pub goes : Goes deliveries s mail acted

  goes_nowhere : (s : Settling) (mail : Mail) → Goes zero s mail (record { next = runner_at s.kept [] mail; inputs = []; prints = [] })
  unfolding told all_posted
  goes_nowhere s mail = record {
    replies = [];
    receipts = [];
    replies_are = sym (append-nil s.replies);
    receipts_are = sym (append-nil s.receipts);
    next = refl;
    prints = refl;
  }

  pub settle_goes : (deliveries most : ℕ) (k : Kept) (packets : List Packet) (replies all : List Reply) (receipts : List Receipt) (mail : Mail) →
      deliveries < most → k.clock ≡ now → (delivered setup deliveries (settling k packets replies receipts)).packets ≡ [] →
      (delivered setup deliveries (settling k packets replies receipts)).replies ≡ all →
      IsOrderly setup (settling k packets replies receipts) all →
      SettlesSo deliveries (settling k packets replies receipts) mail (settles most (runner_at k packets mail))
  unfolding settles
  settle_goes deliveries zero k packets replies all receipts mail few clock left ends ordered = absurd (omega arith)
  settle_goes zero (suc more) k [] replies all receipts mail few clock left ends ordered = record {
    acted = rests (runner_at k [] mail);
    is = refl;
    goes = goes_nowhere (settling k [] replies receipts) mail;
  }
  settle_goes zero (suc more) k (packet ∷ others) replies all receipts mail few clock left ends ordered = absurd cc
  settle_goes (suc deliveries) (suc more) k [] replies all receipts mail few clock left ends ordered =
      let rest = settle_goes deliveries (suc more) k [] replies all receipts mail (omega arith) clock left ends (λ n. ordered (suc n)) in
      record {
        acted = rest.acted;
        is = rest.is;
        goes = record {
          replies = rest.goes.replies;
          receipts = rest.goes.receipts;
          replies_are = rest.goes.replies_are;
          receipts_are = rest.goes.receipts_are;
          next = rest.goes.next;
          prints = rest.goes.prints;
        };
      }
  settle_goes (suc deliveries) (suc more) k (packet ∷ others) replies all receipts mail few clock left ends ordered =
      let step : Stepped = stepped setup k (Delivery packet) in
      let clock_then : step.kept.clock ≡ now = delivery_unmoved setup k packet ∙ clock in
      let first : Posted = handed now mail step.outputs.replies step.outputs.receipts in
      let rest = settle_goes deliveries more step.kept (others ++ step.outputs.packets) (replies ++ step.outputs.replies) all
      (receipts ++ step.outputs.receipts) first.next (omega arith) clock_then left ends (λ n. ordered (suc n)) in
      let goes = rest.goes in
      let order : (step.outputs.receipts ≡ []) ⊎ (goes.replies ≡ []) = elim (ordered 1) [
        | inl none ↦ inl (behind_empty receipts step.outputs.receipts none)
        | inr told_all ↦ inr (none_behind (replies ++ step.outputs.replies) goes.replies (told_all ∙ sym ends ∙ goes.replies_are))
      ] in
      let behind = handed_behind now mail step.outputs.replies goes.replies step.outputs.receipts goes.receipts order in
      let came = comes now mail step packet (others ++ step.outputs.packets) in
      let end = (delivered setup (suc deliveries) (settling k (packet ∷ others) replies receipts)).kept in
      subst
      (λ (moment : ℕ). SettlesSo (suc deliveries) (settling k (packet ∷ others) replies receipts) mail
      (and_settles (comes moment mail step packet (others ++ step.outputs.packets))
      (settles more (comes moment mail step packet (others ++ step.outputs.packets)).next)))
      (sym clock_then)
      (record {
        acted = followed_by came rest.acted;
        is = ap (and_settles came) rest.is;
        goes = record {
          replies = step.outputs.replies ++ goes.replies;
          receipts = step.outputs.receipts ++ goes.receipts;
          replies_are = goes.replies_are ∙ append_assoc replies step.outputs.replies goes.replies;
          receipts_are = goes.receipts_are ∙ append_assoc receipts step.outputs.receipts goes.receipts;
          next = goes.next ∙ ap (λ (p : Posted). runner_at end [] p.next) behind;
          prints = ap (λ (prints : List Print). first.prints ++ prints) goes.prints ∙ ap (λ (p : Posted). p.prints) behind;
        };
      })
    where
      behind_empty : {A : Type 0} (front others : List A) → front ++ others ≡ [] → others ≡ []
      behind_empty [] others none = none
      behind_empty (x ∷ front) others none = absurd cc

      -- what the delivery of a packet leaves and prints, at this moment
      comes : ℕ → Mail → Stepped → Packet → List Packet → Acted
      comes moment before step packet packets = record {
        next = runner_at step.kept packets (handed moment before step.outputs.replies step.outputs.receipts).next;
        inputs = Delivery packet ∷ [];
        prints = (handed moment before step.outputs.replies step.outputs.receipts).prints;
      }
