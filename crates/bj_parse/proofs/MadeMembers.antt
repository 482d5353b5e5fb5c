-- Members that are made of marks and a few tokens, and what stands behind the marks of a member.
use Rattle.std.proofs.Common.{◌≡◌, ℕ, suc, ◌<◌, ◌≤◌, inl, inr, true, false, refl, sym, ap, ◌∙◌, subst, arith, List, [], ◌∷◌, Some, None}
use Rattle.std.proofs.lemmas.Bool.{and_cases, true≢false}
use Rattle.bj_base.specs.declared.span.Span.{Span}
use Rattle.bj_expr_tree.specs.declared.types.TypeTree.{TypeTree}
use Rattle.bj_tree.specs.declared.stmt.VariableTree.{VariableTree}
use Rattle.bj_tree.specs.declared.stmt.StmtTree.{StmtTree}
use Rattle.bj_tree.specs.declared.stmt.StmtTree.TheVariants as stmt
use Rattle.bj_tree.specs.declared.class.AnnotationTree.{AnnotationTree}
use Rattle.bj_tree.specs.declared.class.ClassKind.{ClassKind}
use Rattle.bj_tree.specs.declared.class.Modifier.{Modifier}
use Rattle.bj_tree.specs.declared.member.ParameterTree.{ParameterTree}
use Rattle.bj_tree.specs.declared.member.MemberTree.{MemberTree}
use Rattle.bj_rules.specs.declared.place.Place.{Place}
use Rattle.bj_rules.specs.declared.place.Place.TheVariants as places
use Rattle.bj_rules.specs.Rules.{field_place, method_place}
use Rattle.bj_grammar.specs.declared.terminal.Terminal.TheVariants as t
use Rattle.bj_grammar.specs.Terminal.{terminal, same_terminal, among}
use Rattle.bj_grammar.specs.Reader.{Text}
use Rattle.bj_grammar.proofs.Laws.{is_kind}
use Rattle.bj_expr.specs.Grammar as ge
use Rattle.bj_expr.specs.Grammar.{type_tree, TypeAt}
use Rattle.bj_stmt.specs.Grammar as gs
use Rattle.bj_stmt.specs.Grammar.{named, Block, Variables}
use Rattle.bj_stmt.proofs.Expressions.{Given}
use Rattle.bj_stmt.proofs.Small.{variables_word}
use Rattle.bj_stmt.proofs.Ahead.{goes_on}
use Rattle.bj_class.specs.Grammar as g
use Rattle.bj_class.specs.Grammar.{Annotations, ModifierList, Formals, Member}
use Rattle.bj_class.specs.Reading.{is_static_block}
use Rattle.bj_class.proofs.MemberForms.{field_of, method_of, constructor_of}
use Rattle.bj_class.proofs.MemberTokens.{core_words, void_is_core, word_is_type, type_is_core, variables_not_called}
use Rattle.bj_class.proofs.NoteLaws.{annotations_laws, modifiers_laws}
use Rattle.bj_parse.specs.Early.{any_member}
use Rattle.bj_parse.specs.Marks.{MayHave, member_place}
use Rattle.bj_parse.proofs.Owners.{IsAmong}

-- ---- members made of tokens

module _ (place : ℕ → Span) (most : ℕ) (u : Text) {notes : List AnnotationTree} {ms : List Modifier} {n i q : ℕ}
    (annotated : Annotations place u notes n i) (modified : ModifierList place u ms i q) where
  -- a type and `x ;`
  made_field : {ty : TypeTree} {o : ℕ} → TypeAt place u ty q o → terminal (u o) ≡ t.Word → terminal (u (suc o)) ≡ t.Semicolon
      → Member place u (field_of place most n notes ms ty (record { at = place o; name = (u o).text; dims = 0; init = None } ∷ [])) n (suc (suc o))
  made_field d w e = g.fields annotated modified d (gs.first_variable (gs.variable w (ge.no_pair refl refl) (gs.no_init refl refl) refl) refl) e refl refl

  -- a type and `x ( ) ;`
  made_method : {ty : TypeTree} {o : ℕ} → TypeAt place u ty q o → terminal (u o) ≡ t.Word → terminal (u (suc o)) ≡ t.LeftParen → terminal (u (suc (suc o))) ≡ t.RightParen
      → terminal (u (suc (suc (suc o)))) ≡ t.Semicolon
      → Member place u (method_of place most n notes ms (Some ty) (named (place o) (u o)) [] [] None) n (suc (suc (suc (suc o))))
  made_method d w p c e = g.method annotated modified (g.gives d refl) w (g.no_formals p c refl refl) (g.no_names refl refl) (g.no_body e refl refl) refl

  -- `x ( ) { }`
  made_constructor : terminal (u q) ≡ t.Word → terminal (u (suc q)) ≡ t.LeftParen → terminal (u (suc (suc q))) ≡ t.RightParen → terminal (u (suc (suc (suc q)))) ≡ t.LeftBrace
      → terminal (u (suc (suc (suc (suc q))))) ≡ t.RightBrace
      → Member place u (constructor_of place most n notes ms (named (place q) (u q)) [] [] (stmt.Block (place (suc (suc (suc q)))) [] (place (suc (suc (suc (suc q))))))) n (suc (suc (suc (suc (suc q)))))
  made_constructor w p c b e = g.constructor annotated modified w (g.no_formals p c refl refl) (g.no_names refl refl) (gs.plain_body (gs.braces b (gs.no_statements refl refl) e refl refl)) refl

-- ---- texts that go on with such a member

module _ (place : ℕ → Span) (most : ℕ) (given : Given place most) (kind : ClassKind) (s : Text) (n k : ℕ) where
  abbrev pub Has : Place → Type 0
  Has owner = MayHave (λ s a i j. Member place s a i j) (member_place kind) place s n k owner

  module _ (u : Text) (same : (x : ℕ) → x < k → u x ≡ s x) {notes : List AnnotationTree} {ms : List Modifier} {i q : ℕ}
      (annotated : Annotations place u notes n i) (modified : ModifierList place u ms i q) where
    marks_end : i ≤ q
    marks_end = (modifiers_laws place most).shape.forward u ms i q modified

    -- the marks stand in a text that is the same up to where they end
    pub kept_annotations : (v : Text) → ((x : ℕ) → x < q → v x ≡ u x) → Annotations place v notes n i
    kept_annotations v e = let h = marks_end in (annotations_laws place most).shape.frame u v notes n i (λ x l. e x (omega arith)) annotated

    pub kept_modifiers : (v : Text) → ((x : ℕ) → x < q → v x ≡ u x) → ModifierList place v ms i q
    kept_modifiers v e = (modifiers_laws place most).shape.frame u v ms i q e modified

    -- behind a type and a name either a field or a method may go on
    pub a_field : {ty : TypeTree} {o : ℕ} → TypeAt place u ty q o → terminal (u o) ≡ t.Word → k ≤ suc o → Has (field_place kind)
    a_field {ty} {o} d w le =
        let c = goes_on u (suc o) (t.Semicolon ∷ []) (refl, tt) in
        let h : q < o = given.type_forward u ty q o d in
        record {
          text = c.0;
          tree = _;
          after = _;
          same = λ x l. c.1 x (omega arith) ∙ same x l;
          stands = made_field place most c.0 (kept_annotations c.0 (λ x l. c.1 x (omega arith))) (kept_modifiers c.0 (λ x l. c.1 x (omega arith)))
              (given.type_frame u c.0 ty q o (λ x l. c.1 x (omega arith)) d) (ap terminal (c.1 o (omega arith)) ∙ w) c.2.1.kind;
          has = refl;
        }

    pub a_method : {ty : TypeTree} {o : ℕ} → TypeAt place u ty q o → terminal (u o) ≡ t.Word → k ≤ suc o → Has (method_place kind)
    a_method {ty} {o} d w le =
        let c = goes_on u (suc o) (t.LeftParen ∷ t.RightParen ∷ t.Semicolon ∷ []) (refl, (refl, (refl, tt))) in
        let h : q < o = given.type_forward u ty q o d in
        record {
          text = c.0;
          tree = _;
          after = _;
          same = λ x l. c.1 x (omega arith) ∙ same x l;
          stands = made_method place most c.0 (kept_annotations c.0 (λ x l. c.1 x (omega arith))) (kept_modifiers c.0 (λ x l. c.1 x (omega arith)))
              (given.type_frame u c.0 ty q o (λ x l. c.1 x (omega arith)) d) (ap terminal (c.1 o (omega arith)) ∙ w) c.2.1.kind c.2.1.rest.kind c.2.1.rest.rest.kind;
          has = refl;
        }

    -- behind a name alone a constructor may go on
    a_constructor : terminal (u q) ≡ t.Word → k ≤ suc q → Has places.Constructor
    a_constructor w le =
        let c = goes_on u (suc q) (t.LeftParen ∷ t.RightParen ∷ t.LeftBrace ∷ t.RightBrace ∷ []) (refl, (refl, (refl, (refl, tt)))) in
        let r = c.2.1.rest in
        record {
          text = c.0;
          tree = _;
          after = _;
          same = λ x l. c.1 x (omega arith) ∙ same x l;
          stands = made_constructor place most c.0 (kept_annotations c.0 (λ x l. c.1 x (omega arith))) (kept_modifiers c.0 (λ x l. c.1 x (omega arith)))
              (ap terminal (c.1 q (omega arith)) ∙ w) c.2.1.kind r.kind r.rest.kind r.rest.rest.kind;
          has = refl;
        }

    -- the name as a type, with another name behind it
    twice : terminal (u q) ≡ t.Word → k ≤ suc q
        → ((v : Text) → ((x : ℕ) → x < k → v x ≡ s x) → Annotations place v notes n i → ModifierList place v ms i q → TypeAt place v (type_tree (place q) (v q) 0) q (suc q)
        → terminal (v (suc q)) ≡ t.Word → Has (field_place kind) × Has (method_place kind))
        → Has (field_place kind) × Has (method_place kind)
    twice w le f =
        let c = goes_on u (suc q) (t.Word ∷ []) (refl, tt) in
        f c.0 (λ x l. c.1 x (omega arith) ∙ same x l) (kept_annotations c.0 (λ x l. c.1 x (omega arith))) (kept_modifiers c.0 (λ x l. c.1 x (omega arith)))
        (ge.named (word_is_type (terminal (c.0 q)) (ap terminal (c.1 q (omega arith)) ∙ w)) (ge.no_pair refl refl) refl) c.2.1.kind

  module _ (u : Text) (same : (x : ℕ) → x < k → u x ≡ s x) {notes : List AnnotationTree} {ms : List Modifier} {i q : ℕ}
      (annotated : Annotations place u notes n i) (modified : ModifierList place u ms i q) where
    -- a name of which no more is known may begin each
    pub any_made : terminal (u q) ≡ t.Word → k ≤ suc q → (owner : Place) → IsAmong owner (any_member kind) → Has owner
    any_made w le owner h = of h
      where
        typed : Has (field_place kind) × Has (method_place kind)
        typed = twice u same annotated modified w le (λ v e a b d x. (a_field v e a b d x (omega arith), a_method v e a b d x (omega arith)))

        of : IsAmong owner (any_member kind) → Has owner
        of (inl e) = subst Has (sym e) typed.0
        of (inr (inl e)) = subst Has (sym e) typed.1
        of (inr (inr (inl e))) = subst Has (sym e) (a_constructor u same annotated modified w le)
        of (inr (inr (inr e))) = absurd e

-- ---- what stands behind the marks of a member

-- the first tokens behind the marks of a member with such a place
pub data Behind (place : ℕ → Span) (kind : ClassKind) (u : Text) (p : ℕ) (x : Place) : Type 0 where
  nothing_given : terminal (u p) ≡ t.Void → x ≡ method_place kind → Behind place kind u p x
  constructed : terminal (u p) ≡ t.Word → terminal (u (suc p)) ≡ t.LeftParen → x ≡ places.Constructor → Behind place kind u p x
  called : {ty : TypeTree} {o : ℕ} → TypeAt place u ty p o → terminal (u o) ≡ t.Word → same_terminal (terminal (u (suc o))) t.LeftParen ≡ true → x ≡ method_place kind → Behind place kind u p x
  uncalled : {ty : TypeTree} {o : ℕ} → TypeAt place u ty p o → terminal (u o) ≡ t.Word → same_terminal (terminal (u (suc o))) t.LeftParen ≡ false → x ≡ field_place kind → Behind place kind u p x

pub record Marked (place : ℕ → Span) (kind : ClassKind) (u : Text) (n : ℕ) (x : Place) : Type 0 where
  pub notes : List AnnotationTree
  pub ms : List Modifier
  pub i : ℕ
  pub p : ℕ
  pub annotated : Annotations place u notes n i
  pub modified : ModifierList place u ms i p
  pub behind : Behind place kind u p x

formals_paren : (place : ℕ → Span) (u : Text) {a : List ParameterTree} {i j : ℕ} → Formals place u a i j → terminal (u i) ≡ t.LeftParen
formals_paren place u (g.no_formals o c e at) = o
formals_paren place u (g.formals o d c at) = o

pub type_first : (place : ℕ → Span) (u : Text) {a : TypeTree} {i j : ℕ} → TypeAt place u a i j → among ge.type_words (terminal (u i)) ≡ true
type_first place u (ge.named o d e) = o

block_brace : (place : ℕ → Span) (u : Text) {a : StmtTree} {i j : ℕ} → Block place u a i j → terminal (u i) ≡ t.LeftBrace
block_brace place u (gs.braces o d c e at) = o

pub core_word : {place : ℕ → Span} {kind : ClassKind} {u : Text} {p : ℕ} {x : Place} → Behind place kind u p x → among core_words (terminal (u p)) ≡ true
core_word {u = u} {p = p} (nothing_given o e) = void_is_core (terminal (u p)) o
core_word {u = u} {p = p} (constructed o c e) = type_is_core (terminal (u p)) (word_is_type (terminal (u p)) o)
core_word {place = place} {u = u} {p = p} (called d w c e) = type_is_core (terminal (u p)) (type_first place u d)
core_word {place = place} {u = u} {p = p} (uncalled d w c e) = type_is_core (terminal (u p)) (type_first place u d)

module _ (place : ℕ → Span) (most : ℕ) (given : Given place most) (kind : ClassKind) (u : Text) where
  -- the name of a variable has no parenthesis behind it
  variables_no_paren : {a : List VariableTree} {i j : ℕ} → Variables place u a i j → terminal (u j) ≡ t.Semicolon → same_terminal (terminal (u (suc i))) t.LeftParen ≡ false
  variables_no_paren {i = i} d o =
      elim (and_cases (same_terminal (terminal (u i)) t.Word) (same_terminal (terminal (u (suc i))) t.LeftParen) (variables_not_called place u d o)) [
        | inl e ↦ absurd (true≢false (sym (is_kind _ _ (variables_word place most given 0 u d)) ∙ e))
        | inr e ↦ e
      ]

  owner_is : {a b : MemberTree} {x y : Place} → a ≡ b → member_place kind a ≡ Some x → member_place kind b ≡ Some y → x ≡ y
  owner_is e h l = some_is (sym h ∙ (ap (member_place kind) e ∙ l))
    where
      some_is : {x y : Place} → Some x ≡ Some y → x ≡ y
      some_is e = cc

  no_owner : {a b : MemberTree} {x : Place} {R : Type 0} → a ≡ b → member_place kind a ≡ Some x → member_place kind b ≡ None → R
  no_owner e h l = none_is (sym h ∙ (ap (member_place kind) e ∙ l))
    where
      none_is : {x : Place} {R : Type 0} → Some x ≡ None → R
      none_is e = absurd (cc)

  pub marked : {a : MemberTree} {n j : ℕ} {x : Place} → Member place u a n j → member_place kind a ≡ Some x → Marked place kind u n x
  marked (g.fields {k = i} {n = p} b c d vs o e at) has = record {
    notes = _;
    ms = _;
    i = i;
    p = p;
    annotated = b;
    modified = c;
    behind = uncalled d (variables_word place most given 0 u vs) (variables_no_paren vs o) (owner_is e has refl);
  }
  marked (g.method {k = i} {n = p} b c (g.void o r at) w f h y e) has = record {
    notes = _;
    ms = _;
    i = i;
    p = p;
    annotated = b;
    modified = c;
    behind = nothing_given o (owner_is e has refl);
  }
  marked (g.method {k = i} {n = p} b c (g.gives d r) w f h y e) has = record {
    notes = _;
    ms = _;
    i = i;
    p = p;
    annotated = b;
    modified = c;
    behind = called d w (is_kind _ _ (formals_paren place u f)) (owner_is e has refl);
  }
  marked (g.constructor {k = i} {n = p} b c w f h y e) has = record {
    notes = _;
    ms = _;
    i = i;
    p = p;
    annotated = b;
    modified = c;
    behind = constructed w (formals_paren place u f) (owner_is e has refl);
  }
  marked (g.initializer f b e) has = no_owner e has refl
  marked (g.empty o e at) has = no_owner e has refl

  -- a member that begins with a mark, and is no static initializer, has a place
  pub has_owner : {a : MemberTree} {n j : ℕ} → Member place u a n j → same_terminal (terminal (u n)) t.Semicolon ≡ false → same_terminal (terminal (u n)) t.LeftBrace ≡ false → is_static_block u n ≡ false
      → (x : Place) × (member_place kind a ≡ Some x)
  has_owner (g.fields b c d vs o e at) semicolon brace no_block = (field_place kind, ap (member_place kind) e)
  has_owner (g.method b c d w f h y e) semicolon brace no_block = (method_place kind, ap (member_place kind) e)
  has_owner (g.constructor b c w f h y e) semicolon brace no_block = (places.Constructor, ap (member_place kind) e)
  has_owner {n = n} (g.initializer (g.not_static f at) b e) semicolon brace no_block =
      absurd (true≢false (sym (is_kind (terminal (u n)) t.LeftBrace (subst (λ (z : ℕ). terminal (u z) ≡ t.LeftBrace) at (block_brace place u b))) ∙ brace))
  has_owner {n = n} (g.initializer (g.static o f at) b e) semicolon brace no_block =
      elim (and_cases (same_terminal (terminal (u n)) t.Static) (same_terminal (terminal (u (suc n))) t.LeftBrace) no_block) [
        | inl h ↦ absurd (true≢false (sym (is_kind _ _ o) ∙ h))
        | inr h ↦ absurd (true≢false (sym (is_kind (terminal (u (suc n))) t.LeftBrace (subst (λ (z : ℕ). terminal (u z) ≡ t.LeftBrace) at (block_brace place u b))) ∙ h))
      ]
  has_owner (g.empty o e at) semicolon brace no_block = absurd (true≢false (sym (is_kind _ _ o) ∙ semicolon))
