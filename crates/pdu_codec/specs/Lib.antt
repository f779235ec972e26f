pub use Rattle.pdu_fields.specs.Text
pub use Rattle.pdu_fields.specs.Tlv
pub use Rattle.pdu_fields.specs.Grammar
pub use Rattle.pdu_bodies.specs.Contents
pub use Rattle.pdu_bodies.specs.Forms
pub use Rattle.pdu_bodies.specs.Bodies
pub mod Pdu
pub mod Laws
