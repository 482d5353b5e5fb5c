-- What the functions that read the parts of a file come to, on some tokens.
use Rattle.std.specs.Prelude.{◌≡◌, ℕ, List, [], ◌∷◌, ◌++◌}
use Rattle.bj_token.specs.declared.token.Token.{Token}
use Rattle.bj_tree.specs.declared.class.ImportTree.{ImportTree}
use Rattle.bj_tree.specs.declared.class.ClassTree.{ClassTree}
use Rattle.bj_tree.specs.declared.member.MemberTree.{MemberTree}
use Rattle.bj_grammar.specs.declared.terminal.Terminal.TheVariants as t
use Rattle.bj_grammar.specs.Reader.{Found}
use Rattle.bj_grammar.specs.Given.{text_of, place_of}
use Rattle.bj_expr.specs.declared.bounds.Bounds.{Bounds}
use Rattle.bj_expr.specs.Reading.{is}
use Rattle.bj_stmt.specs.Reading.{inside}
use Rattle.bj_class.specs.declared.head.ClassHead.{ClassHead}
use Rattle.bj_class.specs.Reading as r
use Rattle.bj_parse.specs.Checked.{Checked, Reads, then_checked, unless_early, checked_part, checked_items, nothing_early, check_import, check_head, check_member, closed, checked_body, HaltsAs}
use Rattle.bj_parse.specs.Early.{early_member, early_head}
use Rattle.bj_parse.specs.declared.halt.Halt.{Halt}

abbrev pub one_import : List Token → Bounds → ℕ → Checked ImportTree
one_import tokens bounds i = checked_part check_import (nothing_early i) (r.import_at (place_of tokens) bounds.most (text_of tokens) i)

abbrev pub next_import : List Token → Bounds → List ImportTree → ℕ → Checked (List ImportTree)
next_import tokens bounds b i = then_checked (one_import tokens bounds i) (λ a j. Reads (Found (b ++ a ∷ []) j))

abbrev pub imports_of : List Token → Bounds → ℕ → List ImportTree → ℕ → Checked (List ImportTree)
imports_of tokens bounds = checked_items (is t.Import) (r.import_at (place_of tokens) bounds.most) check_import nothing_early (text_of tokens)

abbrev pub one_member : List Token → Bounds → ClassHead → ℕ → Checked MemberTree
one_member tokens bounds h i = checked_part (check_member h) (early_member (place_of tokens) bounds.most h.kind (text_of tokens) i) (r.member (place_of tokens) bounds.most bounds.room (text_of tokens) i)

-- why a member from i on is not taken that the grammar stops at k
abbrev pub IsMemberStop : List Token → Bounds → ClassHead → ℕ → ℕ → Halt → Type 0
IsMemberStop tokens bounds h i k halt = HaltsAs halt (unless_early {A = MemberTree} (early_member (place_of tokens) bounds.most h.kind (text_of tokens) i k) k)

-- the same of what stands before the members
abbrev pub IsHeadStop : List Token → Bounds → ℕ → ℕ → Halt → Type 0
IsHeadStop tokens bounds i k halt = HaltsAs halt (unless_early {A = ClassHead} (early_head (place_of tokens) bounds.most (text_of tokens) i k) k)

abbrev pub next_member : List Token → Bounds → ClassHead → List MemberTree → ℕ → Checked (List MemberTree)
next_member tokens bounds h b i = then_checked (one_member tokens bounds h i) (λ a j. Reads (Found (b ++ a ∷ []) j))

abbrev pub members_of : List Token → Bounds → ClassHead → ℕ → List MemberTree → ℕ → Checked (List MemberTree)
members_of tokens bounds h = checked_items inside (r.member (place_of tokens) bounds.most bounds.room) (check_member h) (early_member (place_of tokens) bounds.most h.kind (text_of tokens)) (text_of tokens)

abbrev pub one_head : List Token → Bounds → ℕ → Checked ClassHead
one_head tokens bounds i = checked_part check_head (early_head (place_of tokens) bounds.most (text_of tokens) i) (r.head (place_of tokens) bounds.most (text_of tokens) i)

-- the closing brace, behind all members
abbrev pub closing : List Token → List ℕ → List ImportTree → ClassHead → List MemberTree → ℕ → Checked ClassTree
closing tokens class is h ms n = Reads (closed (place_of tokens) 0 0 class is h ms (text_of tokens) n)

abbrev pub body_of : List Token → Bounds → List ℕ → List ImportTree → ClassHead → ℕ → Checked ClassTree
body_of tokens bounds class is h i = checked_body (place_of tokens) bounds.most bounds.room class is h (text_of tokens) i

-- a class behind the imports of its file
abbrev pub class_behind : List Token → Bounds → List ℕ → List ImportTree → ℕ → Checked ClassTree
class_behind tokens bounds class is i = then_checked (one_head tokens bounds i) (λ h n. body_of tokens bounds class is h n)
