-- What the code of a form is made of.
use Rattle.std.proofs.Common.{◌≡◌, ℕ, suc, ◌+◌, ◌<◌, max, take, length, get_or, append-nil, arith, List, [], ◌∷◌, ◌++◌, refl, sym, ap, ◌∙◌, append_assoc}
use Rattle.std.specs.Prelude.{Result, Ok, Err, OnOk, IfOk}
use Rattle.std.proofs.lemmas.List.{length-take-le}
use Rattle.std.proofs.Math.Seq.{take-suc}
use Rattle.bj_base.specs.declared.span.Span.{Span}
use Rattle.bj_core.specs.declared.program.Program.{Program}
use Rattle.bj_core.specs.declared.tree.Expr.{Expr}
use Rattle.bj_core.specs.declared.tree.Stmt.{Stmt}
use Rattle.bj_core.specs.declared.tree.Stmt.TheVariants.{Block}
use Rattle.bj_code.proofs.Blocks.{Block_code, Block_depth, has_value}
use Rattle.bj_code.specs.declared.code.Instr.{Instr}
use Rattle.bj_code.specs.declared.code.Instr.TheVariants as i
use Rattle.bj_code.specs.TermCode.{start_code, expr_code, expr_depth, args_code, args_depth, stmt_code, stmt_depth, all_code, all_depth}

pub on_ok : {T E A B : Type 0} → (r : Result T E) → (A → B) → OnOk r A → OnOk r B
on_ok (Ok x) f p = f p
on_ok (Err e) f p = tt

pub if_ok : {T E : Type 0} {P Q : T → Type 0} → (r : Result T E) → ((x : T) → P x → Q x) → IfOk r P → IfOk r Q
if_ok (Ok x) f p = f x p
if_ok (Err e) f p = tt

-- the code of parts is that of the form
pub form_code : {T E : Type 0} (r : Result T E) (p : Program) (old new code : List Instr) (e : Expr) → code ≡ expr_code p e → OnOk r (new ≡ old ++ code) → OnOk r (new ≡ old ++ expr_code p e)
form_code r p old new code e same = on_ok r (λ n. n ∙ ap (λ l. old ++ l) same)

pub form_depth : {E : Type 0} (r : Result ℕ E) (depth : ℕ) (e : Expr) → depth ≡ expr_depth e → IfOk r (λ d. d ≡ depth) → IfOk r (λ d. d ≡ expr_depth e)
form_depth r depth e same = if_ok {P = λ d. d ≡ depth} {Q = λ d. d ≡ expr_depth e} r (λ d n. n ∙ same)

-- a form with a part that is made before the rest
pub after_first : {T E : Type 0} (r : Result T E) (p : Program) (old mid new first rest : List Instr) (e : Expr) → first ++ rest ≡ expr_code p e → mid ≡ old ++ first
    → OnOk r (new ≡ mid ++ rest) → OnOk r (new ≡ old ++ expr_code p e)
after_first r p old mid new first rest e same m = on_ok r (λ n. n ∙ ap (λ l. l ++ rest) m ∙ append_assoc old first rest ∙ ap (λ l. old ++ l) same)

-- a new object and a call, over the list of their arguments
abbrev pub new_form : Program → ℕ → ℕ → List Expr → List Instr
new_form p class constructor args = start_code p class ++ (i.Make class ∷ (args_code p args ++ i.InvokeSpecial class constructor (length args) ∷ []))

abbrev pub call_form : Program → ℕ → ℕ → List Expr → List Instr
call_form p class method args = args_code p args ++ i.InvokeVirtual class method (length args) ∷ []

-- one more of a list
pub next_take : {A : Type 0} (xs : List A) (i : ℕ) (x : A) → x ≡ get_or xs i x → i < length xs → take (i + 1) xs ≡ take i xs ++ x ∷ []
next_take xs i x e lt = let n : i + 1 ≡ suc i = omega arith in ap (λ n. take n xs) n ∙ take-suc xs i x lt ∙ ap (λ y. take i xs ++ y ∷ []) (sym e)

-- statements
all_code_append : (p : Program) (class : ℕ) (xs ys : List Stmt) → all_code p class (xs ++ ys) ≡ all_code p class xs ++ all_code p class ys
all_code_append p class [] ys = refl
all_code_append p class (x ∷ xs) ys =
    ap (λ l. stmt_code p class x ++ l) (all_code_append p class xs ys) ∙ sym (append_assoc (stmt_code p class x) (all_code p class xs) (all_code p class ys))

all_depth_append : (xs : List Stmt) (y : Stmt) → all_depth (xs ++ y ∷ []) ≡ max (all_depth xs) (stmt_depth y)
all_depth_append [] y = omega arith
all_depth_append (x ∷ xs) y = ap (max (stmt_depth x)) (all_depth_append xs y) ∙ max_assoc (stmt_depth x) (all_depth xs) (stmt_depth y)
  where
    max_assoc : (a b d : ℕ) → max a (max b d) ≡ max (max a b) d
    max_assoc a b d = omega arith

pub more_code : (p : Program) (class : ℕ) (xs : List Stmt) (i : ℕ) (x : Stmt) (first old new : List Instr) → x ≡ get_or xs i x → i < length xs
    → old ≡ first ++ all_code p class (take i xs) → new ≡ old ++ stmt_code p class x → new ≡ first ++ all_code p class (take (i + 1) xs)
more_code p class xs i x first old new e lt inv emit =
    emit ∙ ap (λ l. l ++ stmt_code p class x) inv ∙ append_assoc first (all_code p class (take i xs)) (stmt_code p class x)
    ∙ ap (λ l. first ++ (all_code p class (take i xs) ++ l)) (sym (append-nil (stmt_code p class x)))
    ∙ ap (λ l. first ++ l) (sym (all_code_append p class (take i xs) (x ∷ []))) ∙ ap (λ l. first ++ all_code p class l) (sym (next_take xs i x e lt))

pub more_depth : (xs : List Stmt) (i : ℕ) (x : Stmt) (old d new : ℕ) → x ≡ get_or xs i x → i < length xs → old ≡ all_depth (take i xs) → d ≡ stmt_depth x → new ≡ max old d → new ≡ all_depth (take (i + 1) xs)
more_depth xs i x old d new e lt inv ed en =
    en ∙ ap (λ o. max o d) inv ∙ ap (max (all_depth (take i xs))) ed ∙ sym (all_depth_append (take i xs) x) ∙ ap all_depth (sym (next_take xs i x e lt))

-- arguments
args_code_append : (p : Program) (xs ys : List Expr) → args_code p (xs ++ ys) ≡ args_code p xs ++ args_code p ys
args_code_append p [] ys = refl
args_code_append p (x ∷ xs) ys =
    ap (λ l. expr_code p x ++ l) (args_code_append p xs ys) ∙ sym (append_assoc (expr_code p x) (args_code p xs) (args_code p ys))

args_depth_append : (xs : List Expr) (y : Expr) → args_depth (xs ++ y ∷ []) ≡ max (args_depth xs) (expr_depth y + length xs)
args_depth_append [] y = let some = has_value y in omega (arith, some)
args_depth_append (x ∷ xs) y = let more = args_depth_append xs y in omega (arith, more)

pub more_args_code : (p : Program) (xs : List Expr) (i : ℕ) (x : Expr) (first old new : List Instr) → x ≡ get_or xs i x → i < length xs
    → old ≡ first ++ args_code p (take i xs) → new ≡ old ++ expr_code p x → new ≡ first ++ args_code p (take (i + 1) xs)
more_args_code p xs i x first old new e lt inv emit =
    emit ∙ ap (λ l. l ++ expr_code p x) inv ∙ append_assoc first (args_code p (take i xs)) (expr_code p x)
    ∙ ap (λ l. first ++ (args_code p (take i xs) ++ l)) (sym (append-nil (expr_code p x)))
    ∙ ap (λ l. first ++ l) (sym (args_code_append p (take i xs) (x ∷ []))) ∙ ap (λ l. first ++ args_code p l) (sym (next_take xs i x e lt))

pub more_args_depth : (xs : List Expr) (i : ℕ) (x : Expr) (old d new : ℕ) → x ≡ get_or xs i x → i < length xs → old ≡ args_depth (take i xs) → d ≡ expr_depth x
    → new ≡ max old (d + i) → new ≡ args_depth (take (i + 1) xs)
more_args_depth xs i x old d new e lt inv ed en =
    let len = length-take-le i xs (omega arith) in
    en ∙ ap (λ o. max o (d + i)) inv ∙ ap (λ d. max (args_depth (take i xs)) (d + i)) ed ∙ ap (λ n. max (args_depth (take i xs)) (expr_depth x + n)) (sym len)
    ∙ sym (args_depth_append (take i xs) x) ∙ ap args_depth (sym (next_take xs i x e lt))

-- a block
pub block_code : (p : Program) (class : ℕ) (st : Stmt) (at : Span) (body items : List Stmt) (old new : List Instr) → st ≡ Block at body → items ≡ body
    → new ≡ old ++ all_code p class items → new ≡ old ++ stmt_code p class st
block_code p class st at body items old new e ei en =
    en ∙ ap (λ l. old ++ all_code p class l) ei ∙ ap (λ l. old ++ l) (sym (Block_code p class at body)) ∙ ap (λ st. old ++ stmt_code p class st) (sym e)

pub block_depth : (st : Stmt) (at : Span) (body items : List Stmt) (d : ℕ) → st ≡ Block at body → items ≡ body → d ≡ all_depth items → d ≡ stmt_depth st
block_depth st at body items d e ei ed = ed ∙ ap all_depth ei ∙ sym (Block_depth at body) ∙ ap stmt_depth (sym e)
