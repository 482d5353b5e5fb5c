-- The code of methods and classes, one after another.
use Rattle.std.proofs.Common.{◌≡◌, ℕ, suc, ◌+◌, ◌<◌, take, length, get_or, arith, List, [], ◌∷◌, ◌++◌, refl, sym, ap, ◌∙◌}
use Rattle.std.proofs.lemmas.List.{length-take-le}
use Rattle.bj_core.specs.declared.program.Class.{Class}
use Rattle.bj_core.specs.declared.program.Method.{Method}
use Rattle.bj_core.specs.declared.program.Program.{Program}
use Rattle.bj_eval.specs.Routines.{routine_with}
use Rattle.bj_code.specs.declared.code.CodeBody.{CodeBody}
use Rattle.bj_code.specs.ProgramCode.{class_code, classes_code, code_with, methods_code}
use Rattle.bj_gen.proofs.Emits.{next_take}

methods_code_append : (p : Program) (class : ℕ) (c : Class) (xs : List Method) (y : Method)
    → methods_code p class c (xs ++ y ∷ []) ≡ methods_code p class c xs ++ code_with p class (routine_with c y y.body) ∷ []
methods_code_append p class c [] y = refl
methods_code_append p class c (x ∷ xs) y = ap (λ l. code_with p class (routine_with c x x.body) ∷ l) (methods_code_append p class c xs y)

pub more_methods : (p : Program) (class : ℕ) (c : Class) (xs : List Method) (i : ℕ) (x : Method) (ys : List Method) (old new : List CodeBody) (body : CodeBody) → ys ≡ xs → x ≡ get_or ys i x → i < length ys
    → old ≡ methods_code p class c (take i xs) → body ≡ code_with p class (routine_with c x x.body) → new ≡ old ++ body ∷ [] → new ≡ methods_code p class c (take (i + 1) xs)
more_methods p class c xs i x ys old new body same e lt inv made push =
    let count = ap length same in
    push ∙ ap (λ l. l ++ body ∷ []) inv ∙ ap (λ b. methods_code p class c (take i xs) ++ b ∷ []) made
    ∙ sym (methods_code_append p class c (take i xs) x) ∙ ap (methods_code p class c) (sym (next_take xs i x (e ∙ ap (λ l. get_or l i x) same) (omega (arith, lt, count))))

classes_code_append : (p : Program) (n : ℕ) (xs : List Class) (y : Class) → classes_code p n (xs ++ y ∷ []) ≡ classes_code p n xs ++ class_code p (n + length xs) y ∷ []
classes_code_append p n [] y = let same : n ≡ n + 0 = omega arith in ap (λ n. class_code p n y ∷ []) same
classes_code_append p n (x ∷ xs) y =
    let same : suc n + length xs ≡ n + suc (length xs) = omega arith in
    ap (λ l. class_code p n x ∷ l) (classes_code_append p (suc n) xs y ∙ ap (λ n'. classes_code p (suc n) xs ++ class_code p n' y ∷ []) same)

pub more_classes : (p : Program) (xs : List Class) (i : ℕ) (x : Class) (ys : List Class) (old new : List (List CodeBody)) (bodies : List CodeBody) → ys ≡ xs → x ≡ get_or ys i x → i < length ys
    → old ≡ classes_code p 0 (take i xs) → bodies ≡ class_code p i x → new ≡ old ++ bodies ∷ [] → new ≡ classes_code p 0 (take (i + 1) xs)
more_classes p xs i x ys old new bodies same e lt inv made push =
    let count = ap length same in
    let within : i < length xs = omega (arith, lt, count) in
    let taken = length-take-le i xs (omega arith) in
    let at : i ≡ 0 + length (take i xs) = omega (arith, taken) in
    push ∙ ap (λ l. l ++ bodies ∷ []) inv ∙ ap (λ b. classes_code p 0 (take i xs) ++ b ∷ []) (made ∙ ap (λ n. class_code p n x) at)
    ∙ sym (classes_code_append p 0 (take i xs) x) ∙ ap (classes_code p 0) (sym (next_take xs i x (e ∙ ap (λ l. get_or l i x) same) within))
