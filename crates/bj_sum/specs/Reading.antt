-- The reader of sums, as a function on tokens. A limit says how high a tree may be.
use Rattle.std.specs.Prelude.{ℕ, zero, suc, max, if◌then◌else◌, nat_lt, List, Option, Some, None, slice_index_or, ℤ}
use Rattle.bj_core.specs.declared.tree.Expr.{Expr}
use Rattle.bj_base.specs.declared.op.Op.{Op}
use Rattle.bj_base.specs.declared.op.Op.TheVariants as op
use Rattle.bj_sum.specs.declared.sum.Found.{Found}
use Rattle.bj_sum.specs.declared.token.Sort.{Sort}
use Rattle.bj_sum.specs.declared.token.Sort.TheVariants as sort
use Rattle.bj_sum.specs.declared.token.Token.{Token}
use Rattle.bj_sum.specs.Lexical.{token}
use Rattle.bj_sum.specs.Lexing.{tokens_of}
use Rattle.bj_sum.specs.Grammar.{Text, constant, negation, operation}

-- the text of some tokens
unfoldable pub text_of : List Token → Text
text_of tokens = λ at. slice_index_or tokens at (token 0 sort.End)

-- what stands at a place: a tree, its height, and the place behind it
abbrev pub Parser : Type 0
Parser = ℕ → Option Found

abbrev pub and_then : Option Found → (Found → Option Found) → Option Found
and_then None go = None
and_then (Some f) go = go f

-- a tree with a node above parts of a height, where it is no higher than the limit
abbrev pub raised : ℕ → Expr → ℕ → ℕ → Option Found
raised limit tree below after = if nat_lt below limit then Some (record { tree = tree; height = suc below; after = after }) else None

-- the operators of each rank, from those that bind tightest
abbrev pub operator : ℕ → Sort → Option Op
operator zero sort.Times = Some op.Mul
operator zero _ = None
operator (suc n) sort.Plus = Some op.Add
operator (suc n) sort.Minus = Some op.Sub
operator (suc n) _ = None

abbrev pub with_operator : Option Op → Option Found → (Op → Option Found) → Option Found
with_operator None stopped go = stopped
with_operator (Some o) stopped go = go o

abbrev pub constant_found : ℕ → ℤ → ℕ → Found
constant_found c v after = record { tree = constant c v; height = 0; after = after }

-- what stands in parentheses, where the next token closes them
abbrev pub closed : ℕ → Found → Sort → Option Found
closed limit inner sort.Close = raised limit inner.tree inner.height (suc inner.after)
closed limit inner _ = None

module _ (s : Text) (limit : ℕ) where
  -- Goes on with operators of the rank and their right operands, at most n of them.
  unfoldable pub operations : ℕ → Parser → ℕ → ℕ → Found → Option Found
  operations rank operand column zero left = with_operator (operator rank (s left.after).sort) (Some left) (λ o. None)
  operations rank operand column (suc n) left = with_operator (operator rank (s left.after).sort) (Some left)
      (λ o. and_then (operand (suc left.after)) (λ right.
      and_then (raised limit (operation column o left.tree right.tree) (max left.height right.height) right.after)
      (operations rank operand column n)))

  -- An expression with the operators of the ranks below, whose operands are unary expressions.
  unfoldable pub level_over : Parser → ℕ → Parser
  level_over unary zero at = unary at
  level_over unary (suc rank) at = and_then (level_over unary rank at) (operations rank (level_over unary rank) (s at).column limit)

  abbrev pub unary_by : Sort → Parser → Parser → Parser
  unary_by (sort.Literal v) nested whole at = Some (constant_found (s at).column v (suc at))
  unary_by sort.Minus nested whole at = and_then (nested (suc at)) (λ x. raised limit (negation (s at).column x.tree) x.height x.after)
  unary_by sort.Open nested whole at = and_then (whole (suc at)) (λ x. closed limit x (s x.after).sort)
  unary_by _ nested whole at = None

abbrev pub nothing : Parser
nothing at = None

-- An operator's node, and parentheses, hold what is one lower.
unfoldable pub unary_of : Text → ℕ → Parser
unary_of s zero at = unary_by s zero (s at).sort nothing nothing at
unary_of s (suc limit) at = unary_by s (suc limit) (s at).sort (unary_of s limit) (level_over s limit (unary_of s limit) 2) at

abbrev pub level_of : Text → ℕ → ℕ → Parser
level_of s limit rank = level_over s limit (unary_of s limit) rank

-- the tree, where the text ends behind it
abbrev pub ended : Expr → Sort → Option Expr
ended a sort.End = Some a
ended a _ = None

abbrev pub operations_of : Text → ℕ → ℕ → ℕ → ℕ → Found → Option Found
operations_of s limit rank column n left = operations s limit rank (level_of s limit rank) column n left

abbrev pub whole_text : Option Found → Text → Option Expr
whole_text None s = None
whole_text (Some f) s = ended f.tree (s f.after).sort

abbrev pub read_tokens : Option (List Token) → Option Expr
read_tokens None = None
read_tokens (Some tokens) = whole_text (level_of (text_of tokens) 200 2 0) (text_of tokens)

-- the tree of a sum's text, where it is one
abbrev pub sum_of : List ℕ → Option Expr
sum_of text = read_tokens (tokens_of text)
