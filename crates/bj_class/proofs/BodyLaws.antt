-- The laws of what stands behind the name of a method, of a constructor and behind the type of fields.
use Rattle.std.proofs.Common.{◌≡◌, ℕ, inl, inr, Bool, false, refl, sym, subst, List, Option, Some, None}
use Rattle.bj_base.specs.declared.span.Span.{Span}
use Rattle.bj_expr_tree.specs.declared.types.NamedPlace.{NamedPlace}
use Rattle.bj_expr_tree.specs.declared.types.TypeTree.{TypeTree}
use Rattle.bj_tree.specs.declared.stmt.StmtTree.{StmtTree}
use Rattle.bj_tree.specs.declared.class.Modifier.{Modifier}
use Rattle.bj_tree.specs.declared.class.AnnotationTree.{AnnotationTree}
use Rattle.bj_tree.specs.declared.member.MemberTree.{MemberTree}
use Rattle.bj_grammar.specs.declared.terminal.Terminal.{Terminal}
use Rattle.bj_grammar.specs.declared.terminal.Terminal.TheVariants as t
use Rattle.bj_grammar.specs.Terminal.{terminal, same_terminal}
use Rattle.bj_grammar.specs.Reader.{Text, Parser, ◌>>=◌, pure}
use Rattle.bj_grammar.proofs.Laws.{Rel, Laws, Then, Same, Word, Either, pure_laws, is_kind, seq, alt, tok, renamed}
use Rattle.bj_expr.specs.Reading.{is}
use Rattle.bj_stmt.specs.Grammar.{Block}
use Rattle.bj_stmt.specs.Reading as rs
use Rattle.bj_stmt.specs.declared.part.StmtPart.TheVariants as p
use Rattle.bj_stmt.proofs.Expressions.{Given, Never}
use Rattle.bj_stmt.proofs.Leftmost.{is_not}
use Rattle.bj_stmt.proofs.Small.{Any, name_laws, variables_laws}
use Rattle.bj_class.specs.Grammar as g
use Rattle.bj_class.specs.Grammar.{MaybeBody}
use Rattle.bj_class.specs.Reading as r
use Rattle.bj_class.specs.Deep.{DeepBody, DeepMember}
use Rattle.bj_class.proofs.Needed.{Blocks, Heads}
use Rattle.bj_class.proofs.LawSteps.{take_end, put_end}
use Rattle.bj_class.proofs.MemberForms.{method_of, MethodRest, field_of, FieldsRest, constructor_of, ConstructorRest, Constructed, initializer_of, Initializer}
use Rattle.bj_class.proofs.ParameterLaws.{formals_laws}

sign_facts : (same_terminal t.LeftBrace t.Semicolon ≡ false) × ((same_terminal t.LeftBrace t.Comma ≡ false) × (same_terminal t.LeftBrace t.Throws ≡ false)) × ((same_terminal t.Semicolon t.Comma ≡ false) × (same_terminal t.Semicolon t.Throws ≡ false))
unfolding same_terminal
sign_facts = (refl, (refl, refl), (refl, refl))

module _ (place : ℕ → Span) (most : ℕ) (given : Given place most) (room : ℕ) (blocks : Blocks place most room) (heads : Heads place most) where
  -- ---- a block, or a semicolon

  abbrev BlockRel : Rel StmtTree
  BlockRel = λ s a i j. Block place s a i j

  abbrev pub BodyRel : Rel (Option StmtTree)
  BodyRel = λ s a i j. MaybeBody place s a i j

  abbrev BodyBy : Rel (Option StmtTree)
  BodyBy = Either (Word t.Semicolon (λ _. Same None)) (Then BlockRel (λ b. Same (Some b)))

  to_body : (s : Text) (a : Option StmtTree) (i j : ℕ) → BodyBy s a i j → MaybeBody place s a i j
  to_body s a i j (inl d) = g.no_body d.kind d.rest.tree d.rest.at
  to_body s a i j (inr d) = let w = take_end BlockRel Some s a i j d in g.body w.first w.tree

  from_body : (s : Text) {a : Option StmtTree} {i j : ℕ} → MaybeBody place s a i j → BodyBy s a i j
  from_body s (g.no_body o e at) = inl (record { kind = o; rest = record { tree = e; at = at } })
  from_body s {a} {i} {j} (g.body {b = b} d e) = inr (put_end BlockRel Some s b a i j d e)

  pub maybe_body_laws : Laws most (r.maybe_body place most room) BodyRel Any (DeepBody room)
  unfolding r.maybe_body
  maybe_body_laws = renamed BodyRel Any
      (alt (is t.Semicolon) (tok t.Semicolon refl (λ _. pure_laws most None Any (DeepBody room)))
      (seq blocks.block_laws (λ b. pure_laws most (Some b) Any (DeepBody room)) (λ s b m a j d last. tt) (λ s b m a j d at h. subst (DeepBody room at) (sym d.tree) h))
      (λ s a i j d last. is_kind _ _ d.kind)
      (λ s a i j d last. is_not _ t.LeftBrace t.Semicolon (blocks.block_begins s d.part i d.at d.first).0 sign_facts.0))
      to_body (λ s a i j d. from_body s d) (λ a x e. e)

  before_brace : (x : Terminal) → x ≡ t.LeftBrace → (same_terminal x t.Comma ≡ false) × (same_terminal x t.Throws ≡ false)
  before_brace x e = (is_not x t.LeftBrace t.Comma e sign_facts.1.0, is_not x t.LeftBrace t.Throws e sign_facts.1.1)

  before_body : (s : Text) {a : Option StmtTree} {i j : ℕ} → MaybeBody place s a i j → (same_terminal (terminal (s i)) t.Comma ≡ false) × (same_terminal (terminal (s i)) t.Throws ≡ false)
  before_body s {i = i} (g.no_body o e at) = (is_not (terminal (s i)) t.Semicolon t.Comma o sign_facts.2.0, is_not (terminal (s i)) t.Semicolon t.Throws o sign_facts.2.1)
  before_body s {i = i} {j = j} (g.body {b = b} d e) = before_brace (terminal (s i)) (blocks.block_begins s b i j d).0

  -- ---- behind the name of a method

  pub method_rest_laws : (i : ℕ) (notes : List AnnotationTree) (ms : List Modifier) (result : Option TypeTree) (x : NamedPlace) → Laws most (r.method_rest place most room i notes ms result x) (MethodRest place most i notes ms result x) Any (DeepMember room)
  unfolding r.method_rest
  method_rest_laws i notes ms result x = seq (formals_laws place most given)
      (λ ps. seq (heads.names_laws t.Throws refl)
      (λ ts. seq maybe_body_laws (λ b. pure_laws most (method_of place most i notes ms result x ps ts b) Any (DeepMember room)) (λ s b n a j d last. tt) (λ s b n a j d at h. subst (DeepMember room at) (sym d.tree) h))
      (λ s ts n a j d last. before_body s d.first) (λ s ts n a j d at h. absurd h))
      (λ s ps n a j d last. tt) (λ s ps n a j d at h. absurd h)

  -- ---- behind the type of fields

  pub fields_rest_laws : (i : ℕ) (notes : List AnnotationTree) (ms : List Modifier) (ty : TypeTree) → Laws most (r.fields_rest place most room i notes ms ty) (FieldsRest place most i notes ms ty) Any (DeepMember room)
  unfolding r.fields_rest
  fields_rest_laws i notes ms ty = seq (variables_laws place most given room) (λ vs. tok t.Semicolon refl (λ _. pure_laws most (field_of place most i notes ms ty vs) Any (DeepMember room)))
      (λ s vs n a j d last. d.kind) (λ s vs n a j d at h. subst (DeepMember room at) (sym d.rest.tree) h)

  -- ---- constructors

  abbrev pub constructor_rest : ℕ → List AnnotationTree → List Modifier → NamedPlace → Parser MemberTree
  constructor_rest i notes ms x = r.formals place most >>= λ ps. r.maybe_names place most t.Throws >>= λ ts. rs.nested place most room p.ConstructorBody >>= λ b. pure (constructor_of place most i notes ms x ps ts b)

  pub constructor_rest_laws : (i : ℕ) (notes : List AnnotationTree) (ms : List Modifier) (x : NamedPlace) → Laws most (constructor_rest i notes ms x) (ConstructorRest place most i notes ms x) Any (DeepMember room)
  constructor_rest_laws i notes ms x = seq (formals_laws place most given)
      (λ ps. seq (heads.names_laws t.Throws refl)
      (λ ts. seq blocks.body_laws (λ b. pure_laws most (constructor_of place most i notes ms x ps ts b) Any (DeepMember room)) (λ s b n a j d last. tt) (λ s b n a j d at h. subst (DeepMember room at) (sym d.tree) h))
      (λ s ts n a j d last. before_brace _ (blocks.body_begins s d.part n d.at d.first).0) (λ s ts n a j d at h. absurd h))
      (λ s ps n a j d last. tt) (λ s ps n a j d at h. absurd h)

  pub constructor_laws : (i : ℕ) (notes : List AnnotationTree) (ms : List Modifier) → Laws most (r.constructor place most room i notes ms) (Constructed place most i notes ms) Any (DeepMember room)
  unfolding r.constructor
  constructor_laws i notes ms = seq (name_laws place most Any Never) (λ x. constructor_rest_laws i notes ms x) (λ s x n a j d last. tt) (λ s x n a j d at h. absurd h)

  -- ---- initializers

  pub block_member_laws : (i : ℕ) (f : Bool) → Laws most (r.block_member place most room i f) (Initializer place most i f) Any (DeepMember room)
  unfolding r.block_member
  block_member_laws i f = seq blocks.block_laws (λ b. pure_laws most (initializer_of place most i f b) Any (DeepMember room)) (λ s b n a j d last. tt) (λ s b n a j d at h. subst (DeepMember room at) (sym d.tree) h)
