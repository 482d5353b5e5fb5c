-- The texts of Java that make a `Cell` and call its methods, until the whole grammar is read.
use Rattle.std.specs.Prelude.{ℕ, suc, ◌≡◌, ◌≢◌, ◌==◌, ◌||◌, ◌&&◌, nat_le, Bool, true, if◌then◌else◌, List, [], ◌∷◌, ◌++◌, take, drop, length, Option, Some, None, codes}
use Rattle.std.specs.Option.{option_and_then}
use Rattle.std.specs.Str.{bytes_eq}
use Rattle.bj_core.specs.declared.tree.Expr.{Expr}
use Rattle.bj_sum.specs.declared.cells.CellCall.{CellCall}
use Rattle.bj_sum.specs.declared.cells.CellCall.TheVariants.{Add, Get}
use Rattle.bj_sum.specs.Reading.{sum_of}

-- THE RELATIONS

abbrev pub AreSpaces : List ℕ → Type 0
AreSpaces [] = Unit {0}
AreSpaces (b ∷ bs) = (b ≡ 32) × AreSpaces bs

abbrev pub is_letter : ℕ → Bool
is_letter b = (nat_le 65 b && nat_le b 90) || (nat_le 97 b && nat_le b 122)

abbrev pub AreLetters : List ℕ → Type 0
AreLetters [] = Unit {0}
AreLetters (b ∷ bs) = (is_letter b ≡ true) × AreLetters bs

-- what stands in a pair of parentheses, with spaces before and behind them
pub record InParentheses (text inner : List ℕ) : Type 0 where
  pub before : List ℕ
  pub behind : List ℕ
  pub blank_before : AreSpaces before
  pub blank_behind : AreSpaces behind
  pub text_is : text ≡ before ++ 40 ∷ (inner ++ 41 ∷ behind)

-- `Cell(L)`: the creation of a Cell, without its `new` [JLS 15.9]
pub record IsCreation (text : List ℕ) (argument : Expr) : Type 0 where
  pub rest : List ℕ
  pub inner : List ℕ
  pub text_is : text ≡ codes "Cell" ++ rest
  pub enclosed : InParentheses rest inner
  pub reads : sum_of inner ≡ Some argument

-- a name, a point, and the name of a method, with spaces beside the point [JLS 15.12]
pub record IsMember (text name method rest : List ℕ) : Type 0 where
  pub before : List ℕ
  pub behind : List ℕ
  pub some : name ≢ []
  pub letters : AreLetters name
  pub blank_before : AreSpaces before
  pub blank_behind : AreSpaces behind
  pub text_is : text ≡ name ++ (before ++ 46 ∷ (behind ++ (method ++ rest)))

-- `x.add(L)` and `x.get()`
pub data IsCall (text : List ℕ) : CellCall → Type 0 where
  add : {call : CellCall} (name rest inner : List ℕ) (argument : Expr) → IsMember text name (codes "add") rest → InParentheses rest inner → sum_of inner ≡ Some argument
      → call ≡ Add name argument → IsCall text call
  get : {call : CellCall} (name rest inner : List ℕ) → IsMember text name (codes "get") rest → InParentheses rest inner → AreSpaces inner
      → call ≡ Get name → IsCall text call

-- THE READING

-- the text without the spaces in front
abbrev pub skipped : List ℕ → List ℕ
skipped [] = []
skipped (b ∷ bs) = if b == 32 then skipped bs else b ∷ bs

-- what is behind a sign in front
abbrev pub behind_sign : ℕ → List ℕ → Option (List ℕ)
behind_sign sign [] = None
behind_sign sign (b ∷ bs) = if b == sign then Some bs else None

-- what is behind a word in front
abbrev pub behind_word : List ℕ → List ℕ → Option (List ℕ)
behind_word word text = if bytes_eq (take (length word) text) word then Some (drop (length word) text) else None

-- all are spaces
abbrev pub is_blank : List ℕ → Bool
is_blank [] = true
is_blank (b ∷ bs) = (b == 32) && is_blank bs

abbrev pub with_front : ℕ → Option (List ℕ) → Option (List ℕ)
with_front b None = None
with_front b (Some bs) = Some (b ∷ bs)

-- what is before a closing parenthesis that only spaces follow
abbrev pub before_close : List ℕ → Option (List ℕ)
before_close [] = None
before_close (b ∷ bs) = if (b == 41) && is_blank bs then Some [] else with_front b (before_close bs)

-- what stands in a pair of parentheses
abbrev pub enclosed : List ℕ → Option (List ℕ)
enclosed text = option_and_then before_close (behind_sign 40 (skipped text))

-- what stands in a pair of parentheses behind a word
abbrev pub enclosed_behind : List ℕ → List ℕ → Option (List ℕ)
enclosed_behind word text = option_and_then enclosed (behind_word word text)

-- the sum in a pair of parentheses behind a word
abbrev pub argument_behind : List ℕ → List ℕ → Option Expr
argument_behind word text = option_and_then sum_of (enclosed_behind word text)

-- the argument of a creation, where the text is one
abbrev pub creation_of : List ℕ → Option Expr
creation_of text = argument_behind (codes "Cell") text

-- how many letters there are in front
abbrev pub letters_of : List ℕ → ℕ
letters_of [] = 0
letters_of (b ∷ bs) = if is_letter b then suc (letters_of bs) else 0

abbrev pub get_of : List ℕ → Option (List ℕ) → Option CellCall
get_of name None = None
get_of name (Some inner) = if is_blank inner then Some (Get name) else None

abbrev pub add_or_get : List ℕ → Option Expr → Option (List ℕ) → Option CellCall
add_or_get name (Some argument) inner = Some (Add name argument)
add_or_get name None inner = get_of name inner

-- the call of a method of the object that a name stands for
abbrev pub method_of : List ℕ → List ℕ → Option CellCall
method_of name text = add_or_get name (argument_behind (codes "add") text) (enclosed_behind (codes "get") text)

-- what is behind the point
abbrev pub behind_point : List ℕ → Option (List ℕ)
behind_point text = option_and_then (λ behind. Some (skipped behind)) (behind_sign 46 (skipped text))

abbrev pub call_named : List ℕ → List ℕ → Option CellCall
call_named [] rest = None
call_named (b ∷ bs) rest = option_and_then (method_of (b ∷ bs)) (behind_point rest)

-- the call, where the text is one
abbrev pub call_of : List ℕ → Option CellCall
call_of text = call_named (take (letters_of text) text) (drop (letters_of text) text)
