-- By whom and at which clock a node decides, in the words of the node by what it keeps: of a setup the rules read the node's number
-- alone, and of what is kept the incarnation and the clock.
use Rattle.std.specs.Prelude.{List, [], Option, option_map}
use Rattle.mc_model.specs.message.Chain.{Chain}
use Rattle.mc_model.specs.message.Decree.{Decree}
use Rattle.mc_model.specs.synod.Acceptor.{blank}
use Rattle.mc_model.specs.synod.Packet.{slot_of}
use Rattle.mc_model.specs.node.Setup.{Setup}
use Rattle.node_model.specs.Kept.{Kept}
use Rattle.node_model.specs.Proposer.{Start}
use Rattle.node_model.specs.Stepped.{opened_over}
use Rattle.tick_rules.specs.declared.standpoint.Standpoint.{Standpoint}

abbrev pub setup_of : Standpoint → Setup
setup_of s = record { node = s.author.node; nodes = 1; first_serial = 1; default_validity = 1 }

abbrev pub kept_of : Standpoint → Kept
kept_of s = record (opened_over (λ slot. blank) [] s.author.incarnation 1) { clock = s.clock }

-- ---- chains

-- a round for a chain is at the place of its newest decree
abbrev pub start_of : Chain → Start
start_of chain = record { place = (slot_of chain.id chain.decrees).place; chain = chain.decrees }

abbrev pub decrees_of : Option Chain → Option (List Decree)
decrees_of chain = option_map (λ it. it.decrees) chain
