-- What is told of one message is one fate, and stays.
use Rattle.std.proofs.Common.{◌≡◌, ℕ, List, [], ◌∷◌, ◌++◌, Some, inl, inr, sym, ◌∙◌, ap, subst}
use Rattle.std.specs.List.{AllByRecursion}
use Rattle.std.proofs.lemmas.Fmt.{decimal_injective}
use Rattle.mc_model.specs.message.Decree.{Final}
use Rattle.mc_model.specs.synod.Lists.{In}
use Rattle.mc_model.specs.cluster.World.{World}
use Rattle.fate_chain.specs.States.{state_of}
use Rattle.pdu_tables.specs.StateCodes.{state_code}
use Rattle.script_text.specs.Prints.{Print}
use Rattle.script_text.specs.Laws.{StatesFate}
use Rattle.world_fates.proofs.node.Decided.{IsDecided, decided_once}
use Rattle.world_fates.proofs.node.Telling.{TellsFates}
use Rattle.world_fates.proofs.node.Tellings.{NodePrint, by_node}
use Rattle.world_fates.proofs.node.InOrder.{StatesStay, Tell, TellsOnlyAt}

pub of_all : {A : Type 0} (P : A → Type 0) (items : List A) (item : A) → AllByRecursion P items → In item items → P item
of_all P [] item all is_in = absurd is_in
of_all P (first ∷ items) item all (inl is) = subst P (sym is) all.0
of_all P (first ∷ items) item all (inr behind) = of_all P items item all.1 behind

-- two final states of one message that are told are equal, at whatever nodes
pub told_once : (first : World) (prints : List NodePrint) → Tell first prints → (here there : ℕ) (one other : Print) → In (by_node here one) prints →
    In (by_node there other) prints → (message_id : List ℕ) (state second : ℕ) → StatesFate one message_id state → StatesFate other message_id second →
    state ≡ second
told_once first prints tell here there one other one_in other_in message_id state second states also =
    let told = of_all FatesAt prints (by_node here one) tell.fates one_in message_id state states in
    let again = of_all FatesAt prints (by_node there other) tell.fates other_in message_id second also in
    let ids : again.id ≡ told.id = decimal_injective again.id told.id again.small told.small (again.message ∙ sym told.message) in
    let decided : IsDecided there tell.last told.id again.final = subst (λ (i : ℕ). IsDecided there tell.last i again.final) ids again.decided in
    let finals : told.final ≡ again.final = decided_once here there tell.last tell.holds told.id told.final again.final told.decided decided in
    told.state_is ∙ ap (λ (f : Final). state_code (state_of (Some f))) finals ∙ sym again.state_is
  where
    FatesAt : NodePrint → Type 0
    FatesAt printed = TellsFates printed.0 tell.last printed.1

-- what stays after a print
pub stays_after : (before later : List NodePrint) (node : ℕ) (print : Print) → StatesStay (before ++ by_node node print ∷ later) →
    (message_id : List ℕ) (state : ℕ) → StatesFate print message_id state → AllByRecursion (TellsOnlyAt node message_id state) later
stays_after [] later node print ordered = ordered.0
stays_after (first ∷ before) later node print ordered = stays_after before later node print ordered.1
