-- What the store answers to an action, by one row for each kind of action.
use Rattle.std.specs.Prelude.{◌≡◌, ℕ, suc, Bool, true, false, ◌==◌, nat_lt, if◌then◌else◌, length, Option, Some, None, Result, Ok, Err, slice_get}
use Rattle.bj_core.specs.declared.types.Ty.TheVariants as ty
use Rattle.bj_core.specs.declared.types.Val.{Val}
use Rattle.bj_core.specs.declared.types.Val.TheVariants as val
use Rattle.bj_core.specs.declared.action.Action.{Action}
use Rattle.bj_core.specs.declared.action.Action.TheVariants as action
use Rattle.bj_core.specs.declared.action.Piece.{Piece}
use Rattle.bj_core.specs.declared.action.Answer.{Answer}
use Rattle.bj_core.specs.declared.action.Answer.TheVariants as answer
use Rattle.bj_core.specs.declared.program.Program.{Program}
use Rattle.bj_heap.specs.Objects.{Object, can_make, with_object}
use Rattle.bj_heap.specs.declared.fault.HeapFault.{HeapFault}
use Rattle.bj_heap.specs.declared.fault.HeapFault.TheVariants as fault
use Rattle.bj_store.specs.declared.reaction.Block.{Block}
use Rattle.bj_store.specs.declared.reaction.Block.TheVariants as block
use Rattle.bj_store.specs.declared.reaction.Reaction.{Reaction}
use Rattle.bj_store.specs.declared.reaction.Reaction.TheVariants as is
use Rattle.bj_store.specs.declared.row.Initialization.{Initialization}
use Rattle.bj_store.specs.declared.row.Initialization.TheVariants as init
use Rattle.bj_store.specs.Objects.{new_object}
use Rattle.bj_store.specs.Kinds.{replaces}
use Rattle.bj_store.specs.State.{State, with_heap, with_class, lives, with_lives, field_of, with_field}

-- an answer with the state after it, or why there is none now
pub data Outcome : Type 0 where
  Answered : Answer → State → Outcome
  Blocked : Block → Outcome

-- an action that does not fit the state, or that no row speaks of yet
abbrev pub unfit : Outcome
unfit = Blocked block.Sleeping

abbrev pub got : State → Option Val → Outcome
got s None = unfit
got s (Some v) = Answered (answer.Value v) s

abbrev pub put : State → Val → ℕ → Val → Option Val → Outcome
put s object slot v None = unfit
put s object slot v (Some old) = if replaces v old then Answered answer.Done (with_field s object slot v) else unfit

-- the spare OutOfMemoryError: object 4
abbrev pub spare : State → Val
spare s = val.Ref 4 (ty.Class s.out_of_memory)

-- a new object with the next number, where it is within the limits
abbrev pub made : State → Object → ℕ → Outcome → Outcome
made s o class full =
    if can_make s.heap 1 (length o.cells) then Answered (answer.Value (val.Ref (suc (length s.heap.objects)) (ty.Class class))) (with_heap s (with_object s.heap o)) else full

abbrev pub made_of : Program → State → ℕ → Outcome → Outcome
made_of program s class full = if nat_lt class (length s.classes) then made s (new_object program.classes class) class full else unfit

abbrev pub begun : State → ℕ → ℕ → Option Initialization → Outcome
begun s thread class None = unfit
begun s thread class (Some init.Untouched) = Answered answer.Go (with_class s class (init.By thread))
begun s thread class (Some (init.By other)) = if other == thread then Answered answer.Ready s else Blocked (block.Initializing class other)
begun s thread class (Some init.Ready) = Answered answer.Ready s

abbrev pub ended : State → ℕ → ℕ → Option Initialization → Outcome
ended s thread class (Some (init.By other)) = if other == thread then Answered answer.Done (with_class s class init.Ready) else unfit
ended s thread class _ = unfit

abbrev pub ended_by : State → ℕ → ℕ → Bool → Outcome
ended_by s thread class true = ended s thread class (slice_get s.classes class)
ended_by s thread class false = unfit

abbrev pub raised : Program → State → ℕ → Option Piece → Outcome
raised program s class None = made_of program s class (Answered (answer.Value (spare s)) s)
raised program s class (Some message) = unfit

abbrev pub row : Program → State → ℕ → Action → Outcome
row program s thread (action.Point at) = Answered answer.Done s
row program s thread (action.Get object slot) = got s (field_of s object slot)
row program s thread (action.Put object slot v) = put s object slot v (field_of s object slot)
row program s thread (action.Make class) = made_of program s class (Answered (answer.Thrown s.out_of_memory) s)
row program s thread (action.InitBegin class) = begun s thread class (slice_get s.classes class)
row program s thread (action.InitEnd class ok) = ended_by s thread class ok
row program s thread (action.Raise class message) = raised program s class message
row program s thread (action.End over) = Answered answer.Done (with_lives s thread false)
row program s thread _ = unfit

-- what the store answers to a thread's action
abbrev pub react : Program → State → ℕ → Action → Outcome
react program s thread a = if lives s thread then row program s thread a else unfit

-- why an action is not answered now
abbrev pub block_of : Outcome → Option Block
block_of (Answered x s) = None
block_of (Blocked b) = Some b

-- the action may take memory
abbrev pub takes_memory : Action → Bool
takes_memory (action.Make class) = true
takes_memory (action.Raise class message) = true
takes_memory _ = false

-- What a call that reacts answers and leaves. Where memory is wanting all stays.
abbrev pub Reacts : Reaction → State → State → Outcome → Type 0
Reacts (is.Answered x) old new outcome = outcome ≡ Answered x new
Reacts (is.Blocked b) old new outcome = (outcome ≡ Blocked b) × (new ≡ old)
Reacts is.NoMemory old new outcome = new ≡ old

-- a new object was made, or it would pass a limit, or memory is wanting
abbrev pub Makes : Result Val HeapFault → State → State → ℕ → Object → Type 0
Makes (Ok v) old new class o =
    (can_make old.heap 1 (length o.cells) ≡ true) × (v ≡ val.Ref (suc (length old.heap.objects)) (ty.Class class)) × (new ≡ with_heap old (with_object old.heap o))
Makes (Err fault.Full) old new class o = (can_make old.heap 1 (length o.cells) ≡ false) × (new ≡ old)
Makes (Err fault.NoMemory) old new class o = new ≡ old
