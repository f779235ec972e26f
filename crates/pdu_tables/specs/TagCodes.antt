-- The table of tag numbers (SMPP 3.4, 5.3.2).
use Rattle.std.specs.Prelude.{ℕ, List, [], ◌∷◌, Option, find, ◌==◌}
use Rattle.pdu_tables.specs.declared.tag.Tag.{Tag}
use Rattle.pdu_tables.specs.declared.tag.Tag.TheVariants.{ReceiptedMessageId, UserMessageReference, SarMsgRefNum, SarTotalSegments, SarSegmentSeqnum}
use Rattle.pdu_tables.specs.declared.tag.Tag.TheVariants.{ScInterfaceVersion, MessagePayload, MessageState}

abbrev pub tag_code : Tag → ℕ
tag_code ReceiptedMessageId = 0x001e
tag_code UserMessageReference = 0x0204
tag_code SarMsgRefNum = 0x020c
tag_code SarTotalSegments = 0x020e
tag_code SarSegmentSeqnum = 0x020f
tag_code ScInterfaceVersion = 0x0210
tag_code MessagePayload = 0x0424
tag_code MessageState = 0x0427

abbrev pub tag_table : List Tag
tag_table =
    ReceiptedMessageId
    ∷ UserMessageReference
    ∷ SarMsgRefNum
    ∷ SarTotalSegments
    ∷ SarSegmentSeqnum
    ∷ ScInterfaceVersion
    ∷ MessagePayload
    ∷ MessageState
    ∷ []

-- the one that the number stands for, if any
abbrev pub tag_of : ℕ → Option Tag
tag_of code = find (λ x. tag_code x == code) tag_table
