-- What a world was asked, from any moment of its run on, and the worlds that it became (own).
use Rattle.std.specs.Prelude.{◌≡◌, List, [], ◌∷◌, ◌++◌, map}
use Rattle.mc_model.specs.synod.Packet.{Packet}
use Rattle.synod_acceptor.specs.Packets.{packet_of}
use Rattle.world.specs.Runs.{HaltsOver, IsSomewhere, Leads, StartsOver}
use Rattle.world.specs.Scenes.{Scene}
use Rattle.world_runs.specs.Traces.{Event, HaltedOver, StartedOver, Tried}

-- what a world becomes by an event
abbrev pub Becomes : Scene → Event → Scene → Type 0
Becomes old (Tried step answer) new = Leads old step answer new
Becomes old StartedOver new = StartsOver old new
Becomes old (HaltedOver count fault) new = (halts : HaltsOver old fault new) × (halts.count ≡ count)

-- what it becomes by these, one after the other
abbrev pub BecomesBy : Scene → List Event → Scene → Type 0
BecomesBy old [] new = new ≡ old
BecomesBy old (event ∷ events) new = (next : Scene) × Becomes old event next × BecomesBy next events new

-- Any world, the events that came from then on, the first of them first, and what it became.
pub record History : Type 0 where
  pub first : Scene
  pub stands : IsSomewhere first
  pub events : List Event
  pub last : Scene
  pub becomes : BecomesBy first events last

-- All packets that the world ever numbered meanwhile, the oldest first: as it starts over it numbers those anew that it sends from then on.
abbrev pub numbered_by : (old : Scene) (events : List Event) (new : Scene) → BecomesBy old events new → List Packet
numbered_by old [] new same = map packet_of new.packets
numbered_by old (Tried step answer ∷ events) new way = numbered_by way.0 events new way.2
numbered_by old (StartedOver ∷ events) new way = map packet_of old.packets ++ numbered_by way.0 events new way.2
numbered_by old (HaltedOver count fault ∷ events) new way = numbered_by way.0 events new way.2

abbrev pub packets_of : History → List Packet
packets_of h = numbered_by h.first h.events h.last h.becomes
