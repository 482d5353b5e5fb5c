-- What a line comes to: what is replied, the term that begins, and the wait that opens.
use Rattle.std.specs.Prelude.{ℕ, ◌≡◌, ◌==◌, is_some, if◌then◌else◌, List, [], ◌∷◌, ◌++◌, Option, Some, None, Result, Ok, Err, codes, decimal}
use Rattle.bj_core.specs.declared.frame.Local.{Local}
use Rattle.bj_core.specs.declared.frame.Term.{Term}
use Rattle.bj_core.specs.declared.frame.TermKind.TheVariants as kind
use Rattle.bj_core.specs.declared.program.Program.{Program}
use Rattle.bj_core.specs.declared.tree.Expr.{Expr}
use Rattle.bj_core.specs.declared.tree.Stmt.{Stmt}
use Rattle.bj_core.specs.declared.tree.Stmt.TheVariants.{Return}
use Rattle.bj_base.specs.declared.span.Span.{Span}
use Rattle.bj_core.specs.declared.types.Ty.TheVariants as ty
use Rattle.bj_core.specs.declared.types.Val.{Val}
use Rattle.bj_core.specs.declared.types.Val.TheVariants as val
use Rattle.bj_command.specs.declared.command.Command.{Command}
use Rattle.bj_command.specs.declared.command.Command.TheVariants.{Blank, Pad, New, Call, Inspect, Wait, Unbuilt, Quit}
use Rattle.bj_command.specs.declared.command.LineFault.{LineFault}
use Rattle.bj_command.specs.declared.command.LineFault.TheVariants.{BadLine, NoMemory}
use Rattle.bj_reading.specs.declared.text.JavaText.{JavaText}
use Rattle.bj_reading.specs.declared.text.JavaText.TheVariants as java
use Rattle.bj_reading.specs.Reply.{IsReadingReply}
use Rattle.bj_sum.specs.declared.cells.CellCall.{CellCall}
use Rattle.bj_sum.specs.declared.cells.CellCall.TheVariants.{Add, Get}
use Rattle.bj_sum.specs.Cells.{creation_of, call_of}
use Rattle.bj_sum.specs.Reading.{sum_of}
use Rattle.bj_builtin.specs.Console.{new_cell, call_add, call_get}
use Rattle.bj_store.specs.State.{State}
use Rattle.bj_machine.specs.World.{World}
use Rattle.bj_say.specs.declared.wait.Wait.{Wait as Waiting}
use Rattle.bj_say.specs.declared.wait.Wait.TheVariants.{Told}
use Rattle.bj_bench.specs.declared.names.BoundName.{BoundName}
use Rattle.bj_bench.specs.Names.{value_in, is_taken, is_plain}
use Rattle.bj_say.specs.Views.{inspection}

-- what holds after a history: the machine, the wait that is open, and the names on the bench, the oldest first
pub record After : Type 0 where
  pub world : World
  pub wait : Option Waiting
  pub names : List BoundName

-- what is replied: a text, or what reading the line's Java text comes to
pub data Saying : Type 0 where
  Says : List ℕ → Saying
  Reads : JavaText → List ℕ → Saying

-- a text is such a reply; where a text of Java nests too deep, more than one is
abbrev pub Answers : Saying → List ℕ → Type 0
Answers (Says text) reply = reply ≡ text
Answers (Reads form text) reply = IsReadingReply form text reply

-- what a line comes to
pub record LineOutcome : Type 0 where
  pub reply : Saying
  pub term : Option Term
  pub wait : Option Waiting

abbrev pub says : List ℕ → LineOutcome
says text = record { reply = Says text; term = None; wait = None }

-- the Java text is read, and nothing begins
abbrev pub reads : JavaText → List ℕ → LineOutcome
reads form text = record { reply = Reads form text; term = None; wait = None }

abbrev pub starts : Term → LineOutcome
starts term = record { reply = Says (codes "= started"); term = Some term; wait = None }

abbrev pub opens : Waiting → LineOutcome
opens wait = record { reply = Says []; term = None; wait = Some wait }

abbrev pub not_built : LineOutcome
not_built = says (codes "= not built")

-- where a line's text begins
abbrev pub start_place : Span
start_place = record { line = 1; column = 1 }

-- the term of a codepad line that is an expression of type `int`: it is over with the expression's value
abbrev pub pad_term : Expr → Term
pad_term e = record { kind = kind.Pad; body = Return start_place (Some e); scope = []; gives = ty.Int }

-- the term of `new x Cell(L)`, with the tree of L
abbrev pub new_term : List ℕ → Expr → Term
new_term name argument = record { kind = kind.New name; body = new_cell start_place argument; scope = []; gives = ty.Class 5 }

abbrev pub call_name : CellCall → List ℕ
call_name (Add name argument) = name
call_name (Get name) = name

abbrev pub call_body : CellCall → Stmt
call_body (Add name argument) = call_add start_place 0 argument
call_body (Get name) = call_get start_place 0

abbrev pub local : List ℕ → Val → Local
local name value = record { name = name; value = value }

-- the term of a call on this object
abbrev pub call_term : CellCall → Val → Term
call_term call object = record { kind = kind.Call; body = call_body call; scope = local (call_name call) object ∷ []; gives = ty.Int }

-- a line that begins Java code asks that none runs
abbrev pub if_free : World → LineOutcome → LineOutcome
if_free w go = if is_some w.main then says (codes "= busy") else go

-- a text that is no sum is read, and is not built
abbrev pub pad_outcome : Option Expr → List ℕ → After → LineOutcome
pad_outcome None text s = if_free s.world (reads java.Line text)
pad_outcome (Some e) text s = if_free s.world (starts (pad_term e))

abbrev pub if_untaken : List BoundName → List ℕ → LineOutcome → LineOutcome
if_untaken names name go = if is_taken names name then says (codes "= taken " ++ name) else go

-- a creation of a Cell begins; another text is read, and is not built
abbrev pub creation_begins : Option Expr → List ℕ → List ℕ → LineOutcome
creation_begins None name text = reads java.Creation text
creation_begins (Some e) name text = starts (new_term name e)

abbrev pub creation_outcome : Option Expr → List ℕ → List ℕ → After → LineOutcome
creation_outcome e name text s = if_free s.world (if_untaken s.names name (creation_begins e name text))

abbrev pub new_outcome : Program → List ℕ → List ℕ → After → LineOutcome
new_outcome program name text s = if is_plain program name then creation_outcome (creation_of text) name text s else not_built

-- an object of `Cell`
abbrev pub cell_in : Option Val → Option Val
cell_in (Some (val.Ref object (ty.Class class))) = if class == 5 then Some (val.Ref object (ty.Class class)) else None
cell_in v = None

abbrev pub called_outcome : CellCall → Option Val → After → LineOutcome
called_outcome call None s = not_built
called_outcome call (Some object) s = if_free s.world (starts (call_term call object))

-- a call of a name that stands for an object of `Cell`
abbrev pub cell_call_outcome : CellCall → After → LineOutcome
cell_call_outcome call s = called_outcome call (cell_in (value_in s.names (call_name call))) s

-- a text that is no call of `add` or `get` is read, and is not built
abbrev pub call_outcome : Option CellCall → List ℕ → After → LineOutcome
call_outcome None text s = if_free s.world (reads java.Call text)
call_outcome (Some call) text s = cell_call_outcome call s

abbrev pub inspected : Program → State → List ℕ → Option Val → LineOutcome
inspected program s name None = says (codes "= unknown " ++ name)
inspected program s name (Some v) = says (inspection program s name v)

abbrev pub inspect_outcome : Program → List ℕ → After → LineOutcome
inspect_outcome program name s = if is_plain program name then inspected program s.world.store name (value_in s.names name) else not_built

abbrev pub no_memory : List ℕ
no_memory = codes "= no memory"

-- what a line of a form comes to, over the program that is loaded
unfoldable pub outcome_of : Program → Result Command LineFault → After → LineOutcome
outcome_of program (Ok Blank) s = says []
outcome_of program (Ok (Pad text)) s = pad_outcome (sum_of text) text s
outcome_of program (Ok (New name text)) s = new_outcome program name text s
outcome_of program (Ok (Call text)) s = call_outcome (call_of text) text s
outcome_of program (Ok (Inspect name)) s = inspect_outcome program name s
outcome_of program (Ok Wait) s = opens Told
outcome_of program (Ok Unbuilt) s = not_built
outcome_of program (Ok Quit) s = says []
outcome_of program (Err (BadLine place)) s = says (codes "= bad line " ++ decimal place)
outcome_of program (Err NoMemory) s = says no_memory
