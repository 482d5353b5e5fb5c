-- What the reader of a file finds is no higher than there is room, and so has no node that is too deep.
use Rattle.std.proofs.Common.{◌≡◌, ℕ, suc, ◌<◌, ◌⊎◌, inl, inr, Bool, true, false, List, [], ◌∷◌, ◌++◌, Option, None, Some, arith}
use Rattle.bj_base.specs.declared.span.Span.{Span}
use Rattle.bj_expr_tree.specs.declared.types.NamedPlace.{NamedPlace}
use Rattle.bj_expr_tree.specs.declared.types.TypeTree.{TypeTree}
use Rattle.bj_tree.specs.declared.stmt.VariableTree.{VariableTree}
use Rattle.bj_tree.specs.declared.stmt.StmtTree.{StmtTree}
use Rattle.bj_tree.specs.declared.class.Modifier.{Modifier}
use Rattle.bj_tree.specs.declared.class.AnnotationTree.{AnnotationTree}
use Rattle.bj_tree.specs.declared.class.ClassTree.{ClassTree}
use Rattle.bj_tree.specs.declared.member.MemberTree.{MemberTree}
use Rattle.bj_tree.specs.declared.member.MemberTree.TheVariants as m
use Rattle.bj_grammar.specs.declared.terminal.Terminal.TheVariants as t
use Rattle.bj_grammar.specs.Reader.{Text, Found}
use Rattle.bj_expr.specs.Reading.{is, type_at}
use Rattle.bj_expr.proofs.LowLaws.{Yields, yields_then, yields_pure, yields_any, yields_here, yields_ahead, yields_choose, yields_sign, yields_loop}
use Rattle.bj_stmt.specs.declared.part.StmtPart.{StmtPart}
use Rattle.bj_stmt.specs.declared.part.StmtPart.TheVariants as p
use Rattle.bj_stmt.specs.Heights.{stmt_height}
use Rattle.bj_stmt.specs.Reading as rs
use Rattle.bj_stmt.specs.Reading.{inside}
use Rattle.bj_stmt.proofs.LowStmts.{stmt_low, variables_low}
use Rattle.bj_stmt.proofs.StmtNodeHeights.{stmt_node_high, variables_node_high}
use Rattle.bj_class.specs.Grammar.{class_tree}
use Rattle.bj_class.specs.Reading as r
use Rattle.bj_class.specs.Reading.{is_called, is_static_block}
use Rattle.bj_class.specs.Deep.{HighVariables, HighBody, HighMember, HighMembers, DeepBody, DeepMember, DeepMembers}
use Rattle.bj_class.proofs.MemberForms.{method_of, field_of, constructor_of, initializer_of}

module _ (room : ℕ) where
  -- a block, variables, a body or a member is not too high

  abbrev LowBlock : StmtTree → Type 0
  LowBlock b = room < stmt_height b → ⊥

  abbrev LowVariables : List VariableTree → Type 0
  LowVariables vs = HighVariables room vs → ⊥

  abbrev LowBody : Option StmtTree → Type 0
  LowBody b = HighBody room b → ⊥

  abbrev LowMember : MemberTree → Type 0
  LowMember a = HighMember room a → ⊥

  abbrev LowMembers : List MemberTree → Type 0
  LowMembers ms = HighMembers room ms → ⊥

  -- of members with one more behind them that are too high, it is those, or this one
  high_split : (ms : List MemberTree) (c : MemberTree) → HighMembers room (ms ++ c ∷ []) → HighMembers room ms ⊎ HighMember room c
  high_split [] c (inl h) = inr h
  high_split [] c (inr h) = absurd h
  high_split (a ∷ ms) c (inl h) = inl (inl h)
  high_split (a ∷ ms) c (inr h) = elim (high_split ms c h) [ inl x ↦ inl (inr x) | inr x ↦ inr x ]

  low_end : (ms : List MemberTree) (c : MemberTree) → LowMembers ms → LowMember c → LowMembers (ms ++ c ∷ [])
  low_end ms c u v h = elim (high_split ms c h) [ inl x ↦ u x | inr x ↦ v x ]

module _ (place : ℕ → Span) (turns : ℕ) (room : ℕ) where
  part_low : (x : StmtPart) → Yields (rs.nested place turns room x) (LowBlock room)
  part_low x s i b j e high = let low = stmt_low place turns room x s i b j e in absurd (omega arith)

  fields_low : Yields (rs.variables place turns room) (LowVariables room)
  fields_low s i vs j e high = let low = variables_low place turns room s i vs j e in absurd (omega arith)

  maybe_body_low : Yields (r.maybe_body place turns room) (LowBody room)
  unfolding r.maybe_body
  maybe_body_low = yields_choose (is t.Semicolon) (yields_sign t.Semicolon (yields_pure (LowBody room) None (λ h. h))) (yields_then (part_low p.Block) (λ b h. yields_pure (LowBody room) (Some b) h))

  method_rest_low : (i : ℕ) (notes : List AnnotationTree) (ms : List Modifier) (result : Option TypeTree) (x : NamedPlace) → Yields (r.method_rest place turns room i notes ms result x) (LowMember room)
  unfolding r.method_rest
  method_rest_low i notes ms result x = yields_then (yields_any (r.formals place turns)) (λ ps k. yields_then (yields_any (r.maybe_names place turns t.Throws)) (λ ts k. yields_then maybe_body_low
      (λ b h. yields_pure (LowMember room) (method_of place turns i notes ms result x ps ts b) h)))

  void_method_low : (i : ℕ) (notes : List AnnotationTree) (ms : List Modifier) → Yields (r.void_method place turns room i notes ms) (LowMember room)
  unfolding r.void_method
  void_method_low i notes ms = yields_sign t.Void (yields_then (yields_any (rs.name_at place turns)) (λ x k. method_rest_low i notes ms None x))

  fields_rest_low : (i : ℕ) (notes : List AnnotationTree) (ms : List Modifier) (ty : TypeTree) → Yields (r.fields_rest place turns room i notes ms ty) (LowMember room)
  unfolding r.fields_rest
  fields_rest_low i notes ms ty = yields_then fields_low (λ vs h. yields_sign t.Semicolon (yields_pure (LowMember room) (field_of place turns i notes ms ty vs) h))

  typed_low : (i : ℕ) (notes : List AnnotationTree) (ms : List Modifier) → Yields (r.typed place turns room i notes ms) (LowMember room)
  unfolding r.typed
  typed_low i notes ms = yields_then (yields_any (type_at place turns)) (λ ty k. yields_ahead is_called
      (yields_then (yields_any (rs.name_at place turns)) (λ x k. method_rest_low i notes ms (Some ty) x)) (fields_rest_low i notes ms ty))

  constructor_low : (i : ℕ) (notes : List AnnotationTree) (ms : List Modifier) → Yields (r.constructor place turns room i notes ms) (LowMember room)
  unfolding r.constructor
  constructor_low i notes ms = yields_then (yields_any (rs.name_at place turns)) (λ x k. yields_then (yields_any (r.formals place turns)) (λ ps k. yields_then (yields_any (r.maybe_names place turns t.Throws))
      (λ ts k. yields_then (part_low p.ConstructorBody) (λ b h. yields_pure (LowMember room) (constructor_of place turns i notes ms x ps ts b) h))))

  declared_low : (i : ℕ) → Yields (r.declared place turns room i) (LowMember room)
  unfolding r.declared
  declared_low i = yields_then (yields_any (r.annotations place turns)) (λ notes k. yields_then (yields_any (r.modifiers place turns))
      (λ ms k. yields_choose (is t.Void) (void_method_low i notes ms) (yields_ahead is_called (constructor_low i notes ms) (typed_low i notes ms))))

  block_member_low : (i : ℕ) (f : Bool) → Yields (r.block_member place turns room i f) (LowMember room)
  unfolding r.block_member
  block_member_low i f = yields_then (part_low p.Block) (λ b h. yields_pure (LowMember room) (initializer_of place turns i f b) h)

  one_low : Yields (r.member place turns room) (LowMember room)
  unfolding r.member
  one_low = yields_here (λ i. yields_choose (is t.Semicolon) (yields_sign t.Semicolon (yields_pure (LowMember room) (m.Empty (place i)) (λ h. h))) (yields_choose (is t.LeftBrace) (block_member_low i false)
      (yields_ahead is_static_block (yields_sign t.Static (block_member_low i true)) (declared_low i))))

  next_member_low : (b : List MemberTree) → LowMembers room b → Yields (r.next_member place turns room b) (LowMembers room)
  unfolding r.next_member
  next_member_low b h = yields_then one_low (λ c k. yields_pure (LowMembers room) (b ++ c ∷ []) (low_end room b c h k))

  all_low : Yields (r.members place turns room) (LowMembers room)
  unfolding r.members
  all_low = yields_then (yields_pure (LowMembers room) [] (λ h. h)) (λ b h. yields_loop turns inside (r.next_member place turns room) next_member_low b h)

  abbrev LowFile : ClassTree → Type 0
  LowFile a = LowMembers room a.members

  class_low : (file : List ℕ) → Yields (r.file_at place turns room file) LowFile
  unfolding r.file_at
  class_low file = yields_then (yields_any (r.imports place turns)) (λ is k. yields_then (yields_any (r.head place turns)) (λ h k. yields_then all_low
      (λ ms low. yields_here (λ o. yields_sign t.RightBrace (yields_pure LowFile (class_tree file is h ms (place o)) low)))))

-- no member of a file that is found is too high
pub file_low : (place : ℕ → Span) (turns room : ℕ) (file : List ℕ) (s : Text) (i : ℕ) (a : ClassTree) (j : ℕ) → r.file_at place turns room file s i ≡ Found a j → HighMembers room a.members → ⊥
file_low place turns room file s i a j e h = class_low place turns room file s i a j e h

-- ---- a member with a node that is too deep is too high

high_body : (room : ℕ) (at : Span) (b : Option StmtTree) → DeepBody room at b → HighBody room b
high_body room at None h = h
high_body room at (Some b) h = stmt_node_high (suc room) at b h

high_member : (room : ℕ) (at : Span) (a : MemberTree) → DeepMember room at a → HighMember room a
high_member room at (m.Field f) h = variables_node_high (suc (suc room)) at f.variables h
high_member room at (m.Method f) h = high_body room at f.body h
high_member room at (m.Constructor f) h = stmt_node_high (suc room) at f.body h
high_member room at (m.Initializer f) h = stmt_node_high (suc room) at f.body h
high_member room at (m.Empty place) h = h

pub deep_high : (room : ℕ) (at : Span) (ms : List MemberTree) → DeepMembers room at ms → HighMembers room ms
deep_high room at [] h = h
deep_high room at (a ∷ ms) (inl h) = inl (high_member room at a h)
deep_high room at (a ∷ ms) (inr h) = inr (deep_high room at ms h)
