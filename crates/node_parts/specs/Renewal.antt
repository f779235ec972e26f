-- What a node keeps, once its incarnation is known (own).
use Rattle.fate_chain.specs.declared.decree.Author.{Author}
use Rattle.node_parts.specs.declared.message.Message.{Message}

-- the message is kept by this node in this incarnation
abbrev pub renewed : Author → Message → Message
renewed me m = record m { proposer = record m.proposer { node = me.node; incarnation = me.incarnation } }
