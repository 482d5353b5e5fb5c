-- The statements of a level of depth, as the code reads them.
use Rattle.std.proofs.Common.{List, [], ◌∷◌, ◌≡◌, ℕ, zero, suc, ◌-◌, ◌<◌, ◌≤◌, Bool, Result, length, refl, sym, ap, ◌∙◌, subst, arith}
use Rattle.bj_base.specs.declared.span.Span.{Span}
use Rattle.bj_token.specs.declared.token.Token.{Token}
use Rattle.bj_expr_tree.specs.declared.types.NamedPlace.{NamedPlace}
use Rattle.bj_expr_tree.specs.declared.types.TypeTree.{TypeTree}
use Rattle.bj_tree.specs.declared.stmt.StmtTree.{StmtTree}
use Rattle.bj_tree.specs.declared.stmt.StmtTree.TheVariants as stmt
use Rattle.bj_tree.specs.declared.stmt.VariableTree.{VariableTree}
use Rattle.bj_grammar.specs.Terminal.{terminal, same_terminal}
use Rattle.bj_grammar.specs.declared.terminal.Terminal.{Terminal}
use Rattle.bj_grammar.specs.declared.terminal.Terminal.TheVariants as t
use Rattle.bj_grammar.specs.Reader.{Text, Parser, Answer, Found, and_then}
use Rattle.bj_grammar.specs.declared.stop.Stop.{Stop}
use Rattle.bj_grammar.specs.Given.{IsDeepAt, Fails, Gives, place_of, text_of}
use Rattle.bj_grammar.proofs.LoopLemmas.{deeper, fails_then, fails_same, gives_same}
use Rattle.bj_grammar.proofs.TextLemmas.{end_other}
use Rattle.bj_stmt.specs.declared.part.StmtPart.{StmtPart}
use Rattle.bj_stmt.specs.Reading.{nested, rule, variables_below, variables, for_variables, for_tail, variables_behind}

-- ---- one level of depth

pub told : {A : Type 0} (at node : Span) (r : Answer A) → at ≡ node → IsDeepAt node r → IsDeepAt at r
told at node r e h = subst (λ (x : Span). IsDeepAt x r) (sym e) h

pub nested_zero : (tokens : List Token) (most room : ℕ) (x : StmtPart) (s : Text) (i : ℕ) → room ≡ 0 → IsDeepAt (place_of tokens i) (nested (place_of tokens) most room x s i)
unfolding nested
nested_zero tokens most room x s i none = subst (λ (n : ℕ). IsDeepAt (place_of tokens i) (nested (place_of tokens) most n x s i)) (sym none) refl

pub nested_more : (tokens : List Token) (most room : ℕ) (x : StmtPart) (s : Text) (i : ℕ) → 0 < room
    → nested (place_of tokens) most room x s i ≡ rule (place_of tokens) most (room - 1) (nested (place_of tokens) most (room - 1)) x s i
unfolding nested
nested_more tokens most room x s i some = deeper (λ (n : ℕ). nested (place_of tokens) most n x s i) room some

pub variables_zero : (tokens : List Token) (most room : ℕ) (s : Text) (i : ℕ) → room ≡ 0 → IsDeepAt (place_of tokens i) (variables_below (place_of tokens) most room s i)
unfolding variables_below
variables_zero tokens most room s i none = subst (λ (n : ℕ). IsDeepAt (place_of tokens i) (variables_below (place_of tokens) most n s i)) (sym none) refl

pub variables_more : (tokens : List Token) (most room : ℕ) (s : Text) (i : ℕ) → 0 < room → variables_below (place_of tokens) most room s i ≡ variables (place_of tokens) most (room - 1) s i
unfolding variables_below
variables_more tokens most room s i some = deeper (λ (n : ℕ). variables_below (place_of tokens) most n s i) room some

-- ---- a `for` that declares

module _ (place : ℕ → Span) (most : ℕ) (nested : StmtPart → Parser StmtTree) (i d : ℕ) (f : Bool) (ty : TypeTree) (name : NamedPlace) (m : ℕ) (s : Text) (at : ℕ) where
  pub for_none : (room : ℕ) → room ≡ 0 → IsDeepAt (place d) (for_variables place most room nested i d f ty name m s at)
  unfolding for_variables
  for_none room none = subst (λ (n : ℕ). IsDeepAt (place d) (for_variables place most n nested i d f ty name m s at)) (sym none) refl

  pub for_one : (room : ℕ) → room ≡ 1 → IsDeepAt (place m) (for_variables place most room nested i d f ty name m s at)
  unfolding for_variables
  for_one room one = subst (λ (n : ℕ). IsDeepAt (place m) (for_variables place most n nested i d f ty name m s at)) (sym one) refl

  abbrev For : ℕ → Answer (List VariableTree) → Answer StmtTree
  For room r = and_then r (λ vs j. for_tail place most room nested i (stmt.Local (place d) f ty vs ∷ []) s j)

  pub for_high : (room : ℕ) → 2 ≤ room → for_variables place most room nested i d f ty name m s at ≡ For room (variables_behind place most (room - 2) m name.name s at)
  unfolding for_variables
  for_high zero high = absurd (omega arith)
  for_high (suc zero) high = absurd (omega arith)
  for_high (suc (suc room)) high = let e : suc (suc room) - 2 ≡ room = omega arith in ap (λ (n : ℕ). For (suc (suc room)) (variables_behind place most n m name.name s at)) (sym e)

  pub for_fails : (room : ℕ) → 2 ≤ room → (e : Stop) → Fails e (variables_behind place most (room - 2) m name.name s at) → Fails e (for_variables place most room nested i d f ty name m s at)
  for_fails room high e h = fails_same e _ _ (for_high room high) (fails_then e _ _ h)

  pub for_gives : (room : ℕ) → 2 ≤ room → (vs : List VariableTree) (j : ℕ) → variables_behind place most (room - 2) m name.name s at ≡ Found vs j → (inits : List StmtTree) → inits ≡ stmt.Local (place d) f ty vs ∷ []
      → (r : Result (StmtTree × ℕ) Stop) → Gives r (for_tail place most room nested i inits s j) → Gives r (for_variables place most room nested i d f ty name m s at)
  for_gives room high vs j found inits is r h =
      gives_same r _ _ (for_high room high ∙ (ap (For room) found ∙ ap (λ (xs : List StmtTree). for_tail place most room nested i xs s j) (sym is))) h

-- ---- the tokens past the end

pub past_next : (tokens : List Token) (at : ℕ) (k : Terminal) (b : Bool) → length tokens ≤ at → b ≡ same_terminal t.Other k → b ≡ same_terminal (terminal (text_of tokens (suc at))) k
past_next tokens at k b le e = e ∙ ap (λ (x : Terminal). same_terminal x k) (sym (end_other tokens (suc at) (omega arith)))

pub past_second : (tokens : List Token) (at : ℕ) (k : Terminal) (b : Bool) → length tokens ≤ at → b ≡ same_terminal t.Other k → b ≡ same_terminal (terminal (text_of tokens (suc (suc at)))) k
past_second tokens at k b le e = e ∙ ap (λ (x : Terminal). same_terminal x k) (sym (end_other tokens (suc (suc at)) (omega arith)))
