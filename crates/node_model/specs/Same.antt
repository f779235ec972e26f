-- Whether two votes are the same, as a test.
use Rattle.std.specs.Prelude.{ℕ, Bool, true, false, ◌==◌, ◌&&◌, List}
use Rattle.std.specs.Str.{bytes_eq}
use Rattle.std.specs.Cmp.Lexicographic.{pointwise}
use Rattle.mc_model.specs.message.Submission.{Address, Submission}
use Rattle.mc_model.specs.message.Decree.{
  Attempt,
  Author,
  Decree,
  Deleted,
  Delivered,
  Expired,
  Failed,
  Fate,
  Final,
  Kind,
  Rejected,
  Taken,
  Told,
  Undeliverable,
}
use Rattle.mc_model.specs.synod.OneSlot.{Vote}

abbrev pub same_address : Address → Address → Bool
same_address a b = (a.ton == b.ton) && ((a.npi == b.npi) && bytes_eq a.digits b.digits)

abbrev pub same_parties : Submission → Submission → Bool
same_parties a b =
    bytes_eq a.submitter b.submitter
    && (bytes_eq a.target b.target
    && (bytes_eq a.service_type b.service_type
    && (same_address a.source b.source
    && same_address a.destination b.destination)))

abbrev pub same_handling : Submission → Submission → Bool
same_handling a b =
    (a.esm_class == b.esm_class)
    && ((a.protocol_id == b.protocol_id)
    && ((a.priority_flag == b.priority_flag)
    && ((a.registered_delivery == b.registered_delivery)
    && ((a.data_coding == b.data_coding)
    && ((a.schedule == b.schedule)
    && (a.expiry == b.expiry))))))

abbrev pub same_parameter : ℕ × List ℕ → ℕ × List ℕ → Bool
same_parameter a b = (a.0 == b.0) && bytes_eq a.1 b.1

abbrev pub same_submission : Submission → Submission → Bool
same_submission a b =
    same_parties a b && (same_handling a b && (bytes_eq a.text b.text && pointwise same_parameter a.passed b.passed))

abbrev pub same_final : Final → Final → Bool
same_final Delivered Delivered = true
same_final Expired Expired = true
same_final Deleted Deleted = true
same_final Undeliverable Undeliverable = true
same_final Rejected Rejected = true
same_final a b = false

abbrev pub same_kind : Kind → Kind → Bool
same_kind (Taken a) (Taken b) = same_submission a b
same_kind (Attempt a) (Attempt b) = a == b
same_kind (Failed a) (Failed b) = a == b
same_kind (Fate a error) (Fate b other) = same_final a b && (error == other)
same_kind Told Told = true
same_kind a b = false

abbrev pub same_author : Author → Author → Bool
same_author a b = (a.node == b.node) && (a.incarnation == b.incarnation)

abbrev pub same_decree : Decree → Decree → Bool
same_decree a b = same_author a.author b.author && ((a.moment == b.moment) && same_kind a.kind b.kind)

abbrev pub same_vote : Vote → Vote → Bool
same_vote a b = (a.ballot == b.ballot) && pointwise same_decree a.chain b.chain
