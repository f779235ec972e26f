-- The tests of sameness decide equality.
use Rattle.std.proofs.Common.{◌≡◌, ℕ, true, List, refl, sym, ap, subst}
use Rattle.std.specs.Bool.{Decides}
use Rattle.std.proofs.lemmas.Bool.{true≢false}
use Rattle.std.proofs.lemmas.Bool.Decides.{Decides-and, Decides-eqb, Decides-like}
use Rattle.std.proofs.lemmas.Slice.Eq.{bytes_eq-Decides, slice_eq-Decides}
use Rattle.mc_model.specs.message.Submission.{Address, Submission}
use Rattle.mc_model.specs.message.Decree.{Attempt, Author, Decree, Deleted, Delivered, Expired, Failed, Fate, Final, Kind, Rejected, Taken, Told, Undeliverable}
use Rattle.mc_model.specs.synod.OneSlot.{Vote}
use Rattle.node_model.specs.Same.{same_address, same_author, same_decree, same_final, same_handling, same_kind, same_parameter}
use Rattle.node_model.specs.Same.{same_parties, same_submission, same_vote}

address_decides : (a b : Address) → Decides (same_address a b) (a ≡ b)
address_decides a b = Decides-like (same_address a b)
    (λ p. λ i. record { ton = p.0 i; npi = p.1.0 i; digits = p.1.1 i })
    (λ e. (ap (λ (x : Address). x.ton) e, (ap (λ (x : Address). x.npi) e, ap (λ (x : Address). x.digits) e)))
    (Decides-and _ _ (Decides-eqb a.ton b.ton) (Decides-and _ _ (Decides-eqb a.npi b.npi) (bytes_eq-Decides a.digits b.digits)))

parameter_decides : (a b : ℕ × List ℕ) → Decides (same_parameter a b) (a ≡ b)
parameter_decides a b = Decides-like (same_parameter a b)
    (λ p. λ i. (p.0 i, p.1 i))
    (λ e. (ap (λ (x : ℕ × List ℕ). x.0) e, ap (λ (x : ℕ × List ℕ). x.1) e))
    (Decides-and _ _ (Decides-eqb a.0 b.0) (bytes_eq-Decides a.1 b.1))

-- the parts of a submission that two tests look at, and the others
abbrev Parties : Type 0
Parties = List ℕ × (List ℕ × (List ℕ × (Address × Address)))

abbrev parties : Submission → Parties
parties s = (s.submitter, (s.target, (s.service_type, (s.source, s.destination))))

parties_decide : (a b : Submission) → Decides (same_parties a b) (parties a ≡ parties b)
parties_decide a b = Decides-like (same_parties a b)
    (λ p. λ i. (p.0 i, (p.1.0 i, (p.1.1.0 i, (p.1.1.1.0 i, p.1.1.1.1 i)))))
    (λ e. (ap (λ (x : Parties). x.0) e, (ap (λ (x : Parties). x.1.0) e, (ap (λ (x : Parties). x.1.1.0) e, (ap (λ (x : Parties). x.1.1.1.0) e, ap (λ (x : Parties). x.1.1.1.1) e)))))
    (Decides-and _ _ (bytes_eq-Decides a.submitter b.submitter)
    (Decides-and _ _ (bytes_eq-Decides a.target b.target)
    (Decides-and _ _ (bytes_eq-Decides a.service_type b.service_type)
    (Decides-and _ _ (address_decides a.source b.source) (address_decides a.destination b.destination)))))

abbrev Handling : Type 0
Handling = ℕ × (ℕ × (ℕ × (ℕ × (ℕ × (ℕ × ℕ)))))

abbrev handling : Submission → Handling
handling s = (s.esm_class, (s.protocol_id, (s.priority_flag, (s.registered_delivery, (s.data_coding, (s.schedule, s.expiry))))))

handling_decides : (a b : Submission) → Decides (same_handling a b) (handling a ≡ handling b)
handling_decides a b = Decides-like (same_handling a b)
    (λ p. λ i. (p.0 i, (p.1.0 i, (p.1.1.0 i, (p.1.1.1.0 i, (p.1.1.1.1.0 i, (p.1.1.1.1.1.0 i, p.1.1.1.1.1.1 i)))))))
    (λ e. (ap (λ (x : Handling). x.0) e, (ap (λ (x : Handling). x.1.0) e, (ap (λ (x : Handling). x.1.1.0) e, (ap (λ (x : Handling). x.1.1.1.0) e, (ap (λ (x : Handling). x.1.1.1.1.0) e, (ap (λ (x : Handling). x.1.1.1.1.1.0) e, ap (λ (x : Handling). x.1.1.1.1.1.1) e)))))))
    (Decides-and _ _ (Decides-eqb a.esm_class b.esm_class)
    (Decides-and _ _ (Decides-eqb a.protocol_id b.protocol_id)
    (Decides-and _ _ (Decides-eqb a.priority_flag b.priority_flag)
    (Decides-and _ _ (Decides-eqb a.registered_delivery b.registered_delivery)
    (Decides-and _ _ (Decides-eqb a.data_coding b.data_coding)
    (Decides-and _ _ (Decides-eqb a.schedule b.schedule) (Decides-eqb a.expiry b.expiry)))))))

submission_decides : (a b : Submission) → Decides (same_submission a b) (a ≡ b)
submission_decides a b = Decides-like (same_submission a b)
    (λ p. λ i. record {
      submitter = (p.0 i).0;
      target = (p.0 i).1.0;
      service_type = (p.0 i).1.1.0;
      source = (p.0 i).1.1.1.0;
      destination = (p.0 i).1.1.1.1;
      esm_class = (p.1.0 i).0;
      protocol_id = (p.1.0 i).1.0;
      priority_flag = (p.1.0 i).1.1.0;
      registered_delivery = (p.1.0 i).1.1.1.0;
      data_coding = (p.1.0 i).1.1.1.1.0;
      schedule = (p.1.0 i).1.1.1.1.1.0;
      expiry = (p.1.0 i).1.1.1.1.1.1;
      text = p.1.1.0 i;
      passed = p.1.1.1 i;
    })
    (λ e. (ap parties e, (ap handling e, (ap (λ (x : Submission). x.text) e, ap (λ (x : Submission). x.passed) e))))
    (Decides-and _ _ (parties_decide a b)
    (Decides-and _ _ (handling_decides a b)
    (Decides-and _ _ (bytes_eq-Decides a.text b.text) (slice_eq-Decides parameter_decides a.passed b.passed _ refl))))

final_self : (a : Final) → same_final a a ≡ true
final_self Delivered = refl
final_self Expired = refl
final_self Deleted = refl
final_self Undeliverable = refl
final_self Rejected = refl

final_is : (a b : Final) → same_final a b ≡ true → a ≡ b
final_is Delivered Delivered t = refl
final_is Expired Expired t = refl
final_is Deleted Deleted t = refl
final_is Undeliverable Undeliverable t = refl
final_is Rejected Rejected t = refl
final_is a b t = absurd (true≢false (sym t))

final_decides : (a b : Final) → Decides (same_final a b) (a ≡ b)
final_decides a b = (final_is a b, λ e. subst (λ (f : Final). same_final a f ≡ true) e (final_self a))

kind_self : (a : Kind) → same_kind a a ≡ true
kind_self (Taken a) = (submission_decides a a).1 refl
kind_self (Attempt a) = (Decides-eqb a a).1 refl
kind_self (Failed a) = (Decides-eqb a a).1 refl
kind_self (Fate a error) = (Decides-and _ _ (final_decides a a) (Decides-eqb error error)).1 (refl, refl)
kind_self Told = refl

kind_is : (a b : Kind) → same_kind a b ≡ true → a ≡ b
kind_is (Taken a) (Taken b) t = ap Taken ((submission_decides a b).0 t)
kind_is (Attempt a) (Attempt b) t = ap Attempt ((Decides-eqb a b).0 t)
kind_is (Failed a) (Failed b) t = ap Failed ((Decides-eqb a b).0 t)
kind_is (Fate a error) (Fate b other) t =
    let parts = (Decides-and _ _ (final_decides a b) (Decides-eqb error other)).0 t in λ i. Fate (parts.0 i) (parts.1 i)
kind_is Told Told t = refl
kind_is a b t = absurd (true≢false (sym t))

kind_decides : (a b : Kind) → Decides (same_kind a b) (a ≡ b)
kind_decides a b = (kind_is a b, λ e. subst (λ (k : Kind). same_kind a k ≡ true) e (kind_self a))

author_decides : (a b : Author) → Decides (same_author a b) (a ≡ b)
author_decides a b = Decides-like (same_author a b)
    (λ p. λ i. record { node = p.0 i; incarnation = p.1 i })
    (λ e. (ap (λ (x : Author). x.node) e, ap (λ (x : Author). x.incarnation) e))
    (Decides-and _ _ (Decides-eqb a.node b.node) (Decides-eqb a.incarnation b.incarnation))

decree_decides : (a b : Decree) → Decides (same_decree a b) (a ≡ b)
decree_decides a b = Decides-like (same_decree a b)
    (λ p. λ i. record { author = p.0 i; moment = p.1.0 i; kind = p.1.1 i })
    (λ e. (ap (λ (x : Decree). x.author) e, (ap (λ (x : Decree). x.moment) e, ap (λ (x : Decree). x.kind) e)))
    (Decides-and _ _ (author_decides a.author b.author)
    (Decides-and _ _ (Decides-eqb a.moment b.moment) (kind_decides a.kind b.kind)))

pub vote_decides : (a b : Vote) → Decides (same_vote a b) (a ≡ b)
vote_decides a b = Decides-like (same_vote a b)
    (λ p. λ i. record { ballot = p.0 i; chain = p.1 i })
    (λ e. (ap (λ (x : Vote). x.ballot) e, ap (λ (x : Vote). x.chain) e))
    (Decides-and _ _ (Decides-eqb a.ballot b.ballot) (slice_eq-Decides decree_decides a.chain b.chain _ refl))
