-- How the parts of a body are put together: what goes on with an activation and the answers that are left.
use Rattle.std.specs.Prelude.{ℕ, ◌+◌, List, [], ◌∷◌, length, Option, None, nat_eq, if◌then◌else◌}
use Rattle.bj_base.specs.declared.span.Span.{Span}
use Rattle.bj_core.specs.declared.types.Val.{Val}
use Rattle.bj_core.specs.declared.frame.Frame.{Frame}
use Rattle.bj_core.specs.declared.program.Program.{Program}
use Rattle.bj_core.specs.declared.action.Action.{Action}
use Rattle.bj_core.specs.declared.action.Action.TheVariants as act
use Rattle.bj_core.specs.declared.action.Answer.{Answer}
use Rattle.bj_core.specs.declared.action.Answer.TheVariants.{Done, Value, Thrown, Normal, Ready, Go}
use Rattle.bj_eval.specs.declared.activation.Activation.{Activation}
use Rattle.bj_eval.specs.declared.invocation.Invocation.{Invocation}
use Rattle.bj_eval.specs.Frames.{frame_of, no_class}

-- how an expression or a statement completes [JLS 14.1, 15.6]
pub data Way : Type 0 where
  Fine : Way
  Gives : Val → Way
  Throws : Val → Way
  Returns : Option Val → Way

-- it completes, with the answers that are left; or it wants an action, with these frames; or it is not typed; or an
-- answer is of the wrong kind
pub data Result : Type 0 where
  Went : Way → Activation → List Answer → Result
  Wants : Action → List Frame → Result
  Wrong : Result
  Unfit : Result

abbrev pub On : Type 0
On = Activation → List Answer → Result

-- a call: what runs, the values of its parameters, the last one first, and the frames below its own
abbrev pub Calls : Type 0
Calls = Invocation → List Val → List Frame → List Answer → Result

-- what stays while a body runs: the program, which body it is, the frames below, and what a call does
pub record Context : Type 0 where
  pub program : Program
  pub invocation : Invocation
  pub outer : List Frame
  pub call : Calls

-- after an expression, with its value
abbrev pub on_value : Result → (Val → On) → Result
on_value (Went (Gives v) s xs) f = f v s xs
on_value (Went Fine s xs) f = Went Fine s xs
on_value (Went (Throws r) s xs) f = Went (Throws r) s xs
on_value (Went (Returns o) s xs) f = Went (Returns o) s xs
on_value (Wants a fs) f = Wants a fs
on_value Wrong f = Wrong
on_value Unfit f = Unfit

-- after a statement that completes normally
abbrev pub on_fine : Result → On → Result
on_fine (Went Fine s xs) f = f s xs
on_fine (Went (Gives v) s xs) f = Went (Gives v) s xs
on_fine (Went (Throws r) s xs) f = Went (Throws r) s xs
on_fine (Went (Returns o) s xs) f = Went (Returns o) s xs
on_fine (Wants a fs) f = Wants a fs
on_fine Wrong f = Wrong
on_fine Unfit f = Unfit

-- in the caller, whose activation is s, after the body of a call, which was left with a value or without
abbrev pub on_left : Result → Activation → (Option Val → On) → Result
on_left (Went Fine t xs) s f = f None s xs
on_left (Went (Returns o) t xs) s f = f o s xs
on_left (Went (Throws r) t xs) s f = Went (Throws r) s xs
on_left (Went (Gives v) t xs) s f = Wrong
on_left (Wants a fs) s f = Wants a fs
on_left Wrong s f = Wrong
on_left Unfit s f = Unfit

-- a call of a body with these arguments, the last one first
abbrev pub calling : Context → Invocation → List Val → (Option Val → On) → On
calling c i vs f s xs = on_left (c.call i vs (frame_of c.invocation s ∷ c.outer) xs) s f

-- the next answer, or the action where there is none
abbrev pub ask : Action → Context → Activation → List Answer → (Answer → List Answer → Result) → Result
ask a c s [] f = Wants a (frame_of c.invocation s ∷ c.outer)
ask a c s (x ∷ xs) f = f x xs

abbrev pub when_raised : Activation → Answer → List Answer → Result
when_raised s (Value r) xs = Went (Throws r) s xs
when_raised s Done xs = Unfit
when_raised s (Thrown k) xs = Unfit
when_raised s Normal xs = Unfit
when_raised s Ready xs = Unfit
when_raised s Go xs = Unfit

-- a new throwable of a class without a message, which is then thrown
abbrev pub raise : Context → ℕ → On
raise c class s xs = ask (act.Raise class None) c s xs (when_raised s)

-- where an action that only answers that it is done goes on
abbrev pub when_done : Activation → On → Answer → List Answer → Result
when_done s f Done xs = f s xs
when_done s f (Value v) xs = Unfit
when_done s f (Thrown k) xs = Unfit
when_done s f Normal xs = Unfit
when_done s f Ready xs = Unfit
when_done s f Go xs = Unfit

-- where an action that answers a value goes on
abbrev pub when_value : Activation → (Val → On) → Answer → List Answer → Result
when_value s f (Value x) xs = f x s xs
when_value s f Done xs = Unfit
when_value s f (Thrown k) xs = Unfit
when_value s f Normal xs = Unfit
when_value s f Ready xs = Unfit
when_value s f Go xs = Unfit

-- where an action goes on that answers a value, or the class of what is raised then
abbrev pub when_made : Context → Activation → (Val → On) → Answer → List Answer → Result
when_made c s f (Value x) xs = f x s xs
when_made c s f (Thrown k) xs = raise c k s xs
when_made c s f Done xs = Unfit
when_made c s f Normal xs = Unfit
when_made c s f Ready xs = Unfit
when_made c s f Go xs = Unfit

-- where a class's initialization goes on: the class is ready, or the thread has to initialize it
abbrev pub when_begun : Activation → On → On → Answer → List Answer → Result
when_begun s ready go Ready xs = ready s xs
when_begun s ready go Go xs = go s xs
when_begun s ready go Done xs = Unfit
when_begun s ready go (Value x) xs = Unfit
when_begun s ready go (Thrown k) xs = Unfit
when_begun s ready go Normal xs = Unfit

-- the line of a step point in a body of the class: a term is one line
abbrev pub line_in : ℕ → Span → ℕ
line_in class at = if nat_eq class no_class then 1 else at.line

abbrev pub at_line : Activation → ℕ → Activation
at_line s line = record { line = line; variables = s.variables }

-- a step point
abbrev pub at_point : Context → ℕ → On → On
at_point c line f s xs =
    let t : Activation = at_line s line in
    ask (act.Point (record { class = c.invocation.class; line = line; depth = length c.outer + 1 })) c t xs (when_done t f)
