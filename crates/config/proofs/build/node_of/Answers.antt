use Rattle.std.proofs.Common.{List, ℕ, sym, subst}
use Rattle.std.specs.declared.net.socket_addr.SocketAddrV4.{SocketAddrV4}
use Rattle.config.specs.Listen.{IsListen}
use Rattle.config.proofs.Checked.{listen_found}
use Rattle.config.proofs.build.node_of.Goals as goal

pub unwrap-listen-requires : goal.unwrap-listen-requires
unwrap-listen-requires c =
    (listen_found c.text_at.result.now c.read_listen.result c.read_listen.ensures).1
    (subst (λ (text : List ℕ). (address : SocketAddrV4) × IsListen text address) (sym c.text_at.ensures) c.requires)
