-- What a decree decides, as the model's.
use Rattle.mc_model.specs.message.Decree.{Author, Kind, Taken, Attempt, Failed, Fate, Told, Final, Delivered, Expired, Deleted, Undeliverable, Rejected}
use Rattle.fate_chain.specs.declared.decree.Author.{Author as Writer}
use Rattle.fate_chain.specs.declared.decree.Final.{Final as Ending}
use Rattle.fate_chain.specs.declared.decree.Final.TheVariants as endings
use Rattle.fate_chain.specs.declared.decree.Kind.{Kind as Decided}
use Rattle.fate_chain.specs.declared.decree.Kind.TheVariants as decided

abbrev pub author_of : Writer → Author
author_of a = record { node = a.node; incarnation = a.incarnation }

abbrev pub final_of : Ending → Final
final_of endings.Delivered = Delivered
final_of endings.Expired = Expired
final_of endings.Deleted = Deleted
final_of endings.Undeliverable = Undeliverable
final_of endings.Rejected = Rejected

abbrev pub kind_of : Decided → Kind
kind_of (decided.Taken message) = Taken message
kind_of (decided.Attempt number) = Attempt number
kind_of (decided.Failed error) = Failed error
kind_of (decided.Fate final error) = Fate (final_of final) error
kind_of decided.Told = Told
