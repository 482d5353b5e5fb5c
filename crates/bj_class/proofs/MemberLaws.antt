-- The laws of the reader of a member.
use Rattle.std.proofs.Common.{◌≡◌, ℕ, suc, ◌<◌, ◌≤◌, inl, inr, Bool, true, false, refl, sym, ap, ◌∙◌, subst, arith, List, [], ◌∷◌, Option, Some, None}
use Rattle.std.specs.Prelude.{◌&&◌}
use Rattle.bj_base.specs.declared.span.Span.{Span}
use Rattle.bj_expr_tree.specs.declared.types.NamedPlace.{NamedPlace}
use Rattle.bj_expr_tree.specs.declared.types.TypeTree.{TypeTree}
use Rattle.bj_tree.specs.declared.stmt.VariableTree.{VariableTree}
use Rattle.bj_tree.specs.declared.class.Modifier.{Modifier}
use Rattle.bj_tree.specs.declared.class.AnnotationTree.{AnnotationTree}
use Rattle.bj_tree.specs.declared.member.MemberTree.{MemberTree}
use Rattle.bj_tree.specs.declared.member.MemberTree.TheVariants as m
use Rattle.bj_grammar.specs.declared.terminal.Terminal.{Terminal}
use Rattle.bj_grammar.specs.declared.terminal.Terminal.TheVariants as t
use Rattle.bj_grammar.specs.Terminal.{terminal, same_terminal, among}
use Rattle.bj_grammar.specs.Reader.{Text, ◌>>=◌, pure, sign, ahead, choose}
use Rattle.bj_grammar.proofs.Laws.{Laws, Same, Either, stop, pure_laws, is_kind, kind_is, ahead_laws, reaches, seq, alt, tok, start, renamed}
use Rattle.bj_expr.specs.Grammar as ge
use Rattle.bj_expr.specs.Grammar.{TypeAt}
use Rattle.bj_expr.specs.Reading.{is, type_at}
use Rattle.bj_stmt.specs.Grammar as gs
use Rattle.bj_stmt.specs.Reading as rs
use Rattle.bj_stmt.specs.Reading.{inside}
use Rattle.bj_stmt.proofs.Expressions.{Given, Never}
use Rattle.bj_stmt.proofs.Leftmost.{is_not}
use Rattle.bj_stmt.proofs.Ahead.{goes_on, stop_then, forth, stop_word, type_past}
use Rattle.bj_stmt.proofs.Small.{Any, name_laws, variables_word}
use Rattle.bj_class.specs.Grammar as g
use Rattle.bj_class.specs.Grammar.{modifier, modifier_words, Member}
use Rattle.bj_class.specs.Reading as r
use Rattle.bj_class.specs.Reading.{is_called, is_static_block}
use Rattle.bj_class.specs.Deep.{DeepMember}
use Rattle.bj_class.proofs.Needed.{Blocks, Heads}
use Rattle.bj_class.proofs.LawSteps.{take_name, put_name}
use Rattle.bj_class.proofs.ParameterLaws.{formals_paren}
use Rattle.bj_class.proofs.MemberTokens.{core_words, Start, static_start, void_is_core, word_is_type, type_is_core, type_no_void, core_no_modifier, modifiers_no_note, declared_start, declared_no_block, type_not_called, variables_not_called}
use Rattle.bj_class.proofs.MemberForms.{method_of, MethodRest, NamedMethod, VoidMethod, field_of, FieldsRest, MethodOrFields, Typed, ConstructorRest, Constructed, ConstructedOrTyped, Core, Declared, Initializer, StaticBlock, StaticOrDeclared, MemberBy, to_member, from_member}
use Rattle.bj_class.proofs.BodyLaws.{method_rest_laws, fields_rest_laws, constructor_rest, constructor_rest_laws, constructor_laws, block_member_laws}
use Rattle.bj_class.proofs.MemberAhead.{two_seen, named_past, variables_past}

sign_facts : (same_terminal t.Word t.LeftBracket ≡ false) × (among modifier_words t.Static ≡ true) × (same_terminal t.LeftBrace t.Semicolon ≡ false) × (inside t.Semicolon ≡ true) × (inside t.LeftBrace ≡ true)
unfolding same_terminal
sign_facts = (refl, refl, refl, refl, refl)

and_both : (a b : Bool) → a ≡ true → b ≡ true → (a && b) ≡ true
and_both a b e h = ap (λ (x : Bool). x && b) e ∙ h

static_is_modifier : (x : Terminal) → x ≡ t.Static → among modifier_words x ≡ true
static_is_modifier x e = ap (among modifier_words) e ∙ sign_facts.1

module _ (place : ℕ → Span) (most : ℕ) (given : Given place most) (room : ℕ) (blocks : Blocks place most room) (heads : Heads place most) where
  -- ---- methods and constructors

  named_method_laws : (i : ℕ) (notes : List AnnotationTree) (ms : List Modifier) (result : Option TypeTree)
      → Laws most (rs.name_at place most >>= λ x. r.method_rest place most room i notes ms result x) (NamedMethod place most i notes ms result) Any (DeepMember room)
  named_method_laws i notes ms result = seq (name_laws place most Any Never) (λ x. method_rest_laws place most given room blocks heads i notes ms result x) (λ s x n a j d last. tt) (λ s x n a j d at h. absurd h)

  void_laws : (i : ℕ) (notes : List AnnotationTree) (ms : List Modifier) → Laws most (r.void_method place most room i notes ms) (VoidMethod place most i notes ms) Any (DeepMember room)
  unfolding r.void_method
  void_laws i notes ms = tok t.Void refl (λ _. named_method_laws i notes ms None)

  -- a name with parentheses
  called_is : (s : Text) (i : ℕ) → terminal (s i) ≡ t.Word → terminal (s (suc i)) ≡ t.LeftParen → is_called s i ≡ true
  called_is s i w o = and_both _ _ (is_kind _ _ w) (is_kind _ _ o)

  method_called : (i : ℕ) (notes : List AnnotationTree) (ms : List Modifier) (result : Option TypeTree) (s : Text) (a : MemberTree) (n j : ℕ) → NamedMethod place most i notes ms result s a n j → is_called s n ≡ true
  method_called i notes ms result s a n j d =
      let w = take_name place most (MethodRest place most i notes ms result) s a n j d in
      called_is s n w.0 (formals_paren place most given s w.1.first)

  constructed_called : (i : ℕ) (notes : List AnnotationTree) (ms : List Modifier) (s : Text) (a : MemberTree) (n j : ℕ) → Constructed place most i notes ms s a n j → is_called s n ≡ true
  constructed_called i notes ms s a n j d =
      let w = take_name place most (ConstructorRest place most i notes ms) s a n j d in
      called_is s n w.0 (formals_paren place most given s w.1.first)

  -- ---- behind a type: a method, or fields

  method_or_fields_laws : (i : ℕ) (notes : List AnnotationTree) (ms : List Modifier) (ty : TypeTree)
      → Laws most (ahead is_called (rs.name_at place most >>= λ x. r.method_rest place most room i notes ms (Some ty) x) (r.fields_rest place most room i notes ms ty))
      (MethodOrFields place most i notes ms ty) Any (DeepMember room)
  unfolding r.fields_rest
  method_or_fields_laws i notes ms ty =
      let method = named_method_laws i notes ms (Some ty) in
      let fields = fields_rest_laws place most given room blocks heads i notes ms ty in
      ahead_laws most is_called _ _ (NamedMethod place most i notes ms (Some ty)) (FieldsRest place most i notes ms ty) Any (DeepMember room) method fields
      (λ s u n same. two_seen t.Word t.LeftParen (rs.name_at place most >>= λ x. r.method_rest place most room i notes ms (Some ty) x) (r.fields_rest place most room i notes ms ty) s u n (forth method s n) (forth fields s n)
      (λ w. (named_past place most s n w (λ x. r.method_rest place most room i notes ms (Some ty) x) (λ x k. forth (method_rest_laws place most given room blocks heads i notes ms (Some ty) x) s k), fields_past s n w))
      same)
      (λ s a n j d last. method_called i notes ms (Some ty) s a n j d)
      (λ s a n j d last. variables_not_called place s d.first d.rest.kind)
    where
      semicolon_onward : (vs : List VariableTree) (s : Text) (k : ℕ) → k ≤ stop (sign t.Semicolon (pure (field_of place most i notes ms ty vs)) s k)
      semicolon_onward vs s k = forth (tok {Q = λ _. Same (field_of place most i notes ms ty vs)} {E = Any} {T = DeepMember room} t.Semicolon refl (λ _. pure_laws most (field_of place most i notes ms ty vs) Any (DeepMember room))) s k

      fields_past : (s : Text) (n : ℕ) → same_terminal (terminal (s n)) t.Word ≡ true → suc n ≤ stop ((rs.variables place most room >>= λ vs. sign t.Semicolon (pure (field_of place most i notes ms ty vs))) s n)
      fields_past s n w =
          let h = variables_past place most s n w given room in
          let k = stop_then (rs.variables place most room s n) (λ vs q. sign t.Semicolon (pure (field_of place most i notes ms ty vs)) s q) (λ vs q. semicolon_onward vs s q) in
          omega arith

  method_or_fields_word : (i : ℕ) (notes : List AnnotationTree) (ms : List Modifier) (ty : TypeTree) (s : Text) (a : MemberTree) (n j : ℕ) → MethodOrFields place most i notes ms ty s a n j → terminal (s n) ≡ t.Word
  method_or_fields_word i notes ms ty s a n j (inl d) = d.first.kind
  method_or_fields_word i notes ms ty s a n j (inr d) = variables_word place most given room s d.first

  typed_laws : (i : ℕ) (notes : List AnnotationTree) (ms : List Modifier) → Laws most (r.typed place most room i notes ms) (Typed place most i notes ms) Any (DeepMember room)
  unfolding r.typed
  typed_laws i notes ms = seq given.type_laws (λ ty. method_or_fields_laws i notes ms ty)
      (λ s ty n a j d last. is_not _ t.Word t.LeftBracket (method_or_fields_word i notes ms ty s a n j d) sign_facts.0)
      (λ s ty n a j d at h. absurd h)

  -- ---- a constructor, or a member with a type

  type_first : (s : Text) {a : TypeTree} {i j : ℕ} → TypeAt place s a i j → among ge.type_words (terminal (s i)) ≡ true
  type_first s (ge.named o d e) = o

  constructed_past : (i : ℕ) (notes : List AnnotationTree) (ms : List Modifier) (s : Text) (n : ℕ) → same_terminal (terminal (s n)) t.Word ≡ true → suc n ≤ stop (r.constructor place most room i notes ms s n)
  unfolding r.constructor
  constructed_past i notes ms s n w = named_past place most s n w (constructor_rest place most given room blocks heads i notes ms) (λ x k. forth (constructor_rest_laws place most given room blocks heads i notes ms x) s k)

  typed_past : (i : ℕ) (notes : List AnnotationTree) (ms : List Modifier) (s : Text) (n : ℕ) → same_terminal (terminal (s n)) t.Word ≡ true → suc n ≤ stop (r.typed place most room i notes ms s n)
  unfolding r.typed
  typed_past i notes ms s n w =
      let h = type_past place most given s n w in
      let k = stop_then (type_at place most s n) (λ ty q. ahead is_called (rs.name_at place most >>= λ x. r.method_rest place most room i notes ms (Some ty) x) (r.fields_rest place most room i notes ms ty) s q) (λ ty q. forth (method_or_fields_laws i notes ms ty) s q) in
      omega arith

  constructed_or_typed_laws : (i : ℕ) (notes : List AnnotationTree) (ms : List Modifier)
      → Laws most (ahead is_called (r.constructor place most room i notes ms) (r.typed place most room i notes ms)) (ConstructedOrTyped place most i notes ms) Any (DeepMember room)
  constructed_or_typed_laws i notes ms =
      let constructed = constructor_laws place most given room blocks heads i notes ms in
      let typed = typed_laws i notes ms in
      ahead_laws most is_called _ _ (Constructed place most i notes ms) (Typed place most i notes ms) Any (DeepMember room) constructed typed
      (λ s u n same. two_seen t.Word t.LeftParen (r.constructor place most room i notes ms) (r.typed place most room i notes ms) s u n (forth constructed s n) (forth typed s n)
      (λ w. (constructed_past i notes ms s n w, typed_past i notes ms s n w)) same)
      (λ s a n j d last. constructed_called i notes ms s a n j d)
      (λ s a n j d last. type_not_called place s d.first (method_or_fields_word i notes ms d.part s a d.at j d.rest))

  -- ---- with annotations and modifiers

  typed_first : (i : ℕ) (notes : List AnnotationTree) (ms : List Modifier) (s : Text) (a : MemberTree) (n j : ℕ) → ConstructedOrTyped place most i notes ms s a n j → among ge.type_words (terminal (s n)) ≡ true
  typed_first i notes ms s a n j (inl d) = word_is_type (terminal (s n)) d.first.kind
  typed_first i notes ms s a n j (inr d) = type_first s d.first

  core_first : (i : ℕ) (notes : List AnnotationTree) (ms : List Modifier) (s : Text) (a : MemberTree) (n j : ℕ) → Core place most i notes ms s a n j → among core_words (terminal (s n)) ≡ true
  core_first i notes ms s a n j (inl d) = void_is_core (terminal (s n)) d.kind
  core_first i notes ms s a n j (inr d) = type_is_core (terminal (s n)) (typed_first i notes ms s a n j d)

  core_laws : (i : ℕ) (notes : List AnnotationTree) (ms : List Modifier)
      → Laws most (choose (is t.Void) (r.void_method place most room i notes ms) (ahead is_called (r.constructor place most room i notes ms) (r.typed place most room i notes ms))) (Core place most i notes ms) Any (DeepMember room)
  core_laws i notes ms = alt (is t.Void) (void_laws i notes ms) (constructed_or_typed_laws i notes ms) (λ s a n j d last. is_kind _ _ d.kind) (λ s a n j d last. type_no_void (terminal (s n)) (typed_first i notes ms s a n j d))

  declared_laws : (i : ℕ) → Laws most (r.declared place most room i) (Declared place most i) Any (DeepMember room)
  unfolding r.declared
  declared_laws i = seq heads.annotations_laws (λ notes. seq heads.modifiers_laws (λ ms. core_laws i notes ms)
      (λ s ms n a j d last. core_no_modifier (terminal (s n)) (core_first i notes ms s a n j d)) (λ s ms n a j d at h. absurd h))
      (λ s notes n a j d last. modifiers_no_note place s d.first (core_first i notes d.part s a d.at j d.rest)) (λ s notes n a j d at h. absurd h)

  -- ---- a static initializer, or a declaration

  -- `static void x();`
  static_method : (i : ℕ) (u : Text) (n : ℕ) → terminal (u n) ≡ t.Static → terminal (u (suc n)) ≡ t.Void → terminal (u (suc (suc n))) ≡ t.Word → terminal (u (suc (suc (suc n)))) ≡ t.LeftParen → terminal (u (suc (suc (suc (suc n))))) ≡ t.RightParen
      → terminal (u (suc (suc (suc (suc (suc n)))))) ≡ t.Semicolon → (a : MemberTree) × Declared place most i u a n (suc (suc (suc (suc (suc (suc n))))))
  static_method i u n k v w o c e =
      let ms : List Modifier = modifier (place n) (u n) ∷ [] in
      let x : NamedPlace = gs.named (place (suc (suc n))) (u (suc (suc n))) in
      let made : MemberTree = method_of place most i [] ms None x [] [] None in
      let rest : MethodRest place most i [] ms None x u made (suc (suc (suc n))) (suc (suc (suc (suc (suc (suc n)))))) = record {
        part = [];
        at = suc (suc (suc (suc (suc n))));
        first = g.no_formals o c refl refl;
        rest = record {
          part = [];
          at = suc (suc (suc (suc (suc n))));
          first = g.no_names refl refl;
          rest = record { part = None; at = suc (suc (suc (suc (suc (suc n))))); first = g.no_body e refl refl; rest = record { tree = refl; at = refl } };
        };
      } in (
        made,
        record {
          part = [];
          at = n;
          first = g.no_annotations refl refl;
          rest = record {
            part = ms;
            at = suc n;
            first = g.next_modifier {b = []} (g.no_modifiers refl refl) (static_is_modifier (terminal (u n)) k) refl refl;
            rest = inl (record { kind = v; rest = put_name place most (MethodRest place most i [] ms None) u made (suc (suc n)) (suc (suc (suc (suc (suc (suc n)))))) w rest });
          };
        },
      )

  declared_past : (i : ℕ) (s : Text) (n : ℕ) → same_terminal (terminal (s n)) t.Static ≡ true → n < stop (r.declared place most room i s n)
  declared_past i s n k =
      let c = goes_on s (suc n) (t.Void ∷ t.Word ∷ t.LeftParen ∷ t.RightParen ∷ t.Semicolon ∷ []) (refl, (refl, (refl, (refl, (refl, tt))))) in
      let here : c.0 n ≡ s n = c.1 n (omega arith) in
      let first : terminal (c.0 n) ≡ t.Static = ap terminal here ∙ kind_is _ _ k in
      let w = c.2.1.rest in
      let d = static_method i c.0 n first c.2.1.kind w.kind w.rest.kind w.rest.rest.kind w.rest.rest.rest.kind in
      reaches most (r.declared place most room i) (Declared place most i) Any (DeepMember room) (declared_laws i) s c.0 n n d.0 (suc (suc (suc (suc (suc (suc n))))))
      (λ x h. c.1 x (omega arith)) d.1 tt (omega arith) (omega arith)

  static_block_laws : (i : ℕ) → Laws most (sign t.Static (r.block_member place most room i true)) (StaticBlock place most i) Any (DeepMember room)
  static_block_laws i = tok t.Static refl (λ _. block_member_laws place most given room blocks heads i true)

  initializer_brace : (i : ℕ) (f : Bool) (s : Text) (a : MemberTree) (n j : ℕ) → Initializer place most i f s a n j → terminal (s n) ≡ t.LeftBrace
  initializer_brace i f s a n j d = (blocks.block_begins s d.part n d.at d.first).0

  static_block_is : (i : ℕ) (s : Text) (a : MemberTree) (n j : ℕ) → StaticBlock place most i s a n j → is_static_block s n ≡ true
  static_block_is i s a n j d = and_both _ _ (is_kind _ _ d.kind) (is_kind _ _ (initializer_brace i true s a (suc n) j d.rest))

  static_block_past : (i : ℕ) (s : Text) (n : ℕ) → same_terminal (terminal (s n)) t.Static ≡ true → suc n ≤ stop (sign t.Static (r.block_member place most room i true) s n)
  static_block_past i s n k = stop_word t.Static (λ _. r.block_member place most room i true) s n (suc n) k (forth (block_member_laws place most given room blocks heads i true) s (suc n))

  static_or_declared_laws : (i : ℕ) → Laws most (ahead is_static_block (sign t.Static (r.block_member place most room i true)) (r.declared place most room i)) (StaticOrDeclared place most i) Any (DeepMember room)
  static_or_declared_laws i =
      let block = static_block_laws i in
      let declared = declared_laws i in
      ahead_laws most is_static_block _ _ (StaticBlock place most i) (Declared place most i) Any (DeepMember room) block declared
      (λ s u n same. two_seen t.Static t.LeftBrace (sign t.Static (r.block_member place most room i true)) (r.declared place most room i) s u n (forth block s n) (forth declared s n)
      (λ w. (static_block_past i s n w, declared_past i s n w)) same)
      (λ s a n j d last. static_block_is i s a n j d)
      (λ s a n j d last. declared_no_block place s d.first d.rest.first (core_first i d.part d.rest.part s a d.rest.at j d.rest.rest))

  -- ---- each member

  longer_start : (i : ℕ) (s : Text) (a : MemberTree) (n j : ℕ) → StaticOrDeclared place most i s a n j → Start (terminal (s n))
  longer_start i s a n j (inl d) = subst Start (sym d.kind) static_start
  longer_start i s a n j (inr d) = declared_start place s d.first d.rest.first (core_first i d.part d.rest.part s a d.rest.at j d.rest.rest)

  no_semicolon : (i : ℕ) (s : Text) (a : MemberTree) (n j : ℕ) → Either (Initializer place most i false) (StaticOrDeclared place most i) s a n j → same_terminal (terminal (s n)) t.Semicolon ≡ false
  no_semicolon i s a n j (inl d) = is_not (terminal (s n)) t.LeftBrace t.Semicolon (initializer_brace i false s a n j d) sign_facts.2
  no_semicolon i s a n j (inr d) = (longer_start i s a n j d).0

  member_by_laws : (i : ℕ) → Laws most (choose (is t.Semicolon) (sign t.Semicolon (pure (m.Empty (place i)))) (choose (is t.LeftBrace) (r.block_member place most room i false)
      (ahead is_static_block (sign t.Static (r.block_member place most room i true)) (r.declared place most room i)))) (MemberBy place most i) Any (DeepMember room)
  member_by_laws i = alt (is t.Semicolon) (tok t.Semicolon refl (λ _. pure_laws most (m.Empty (place i)) Any (DeepMember room)))
      (alt (is t.LeftBrace) (block_member_laws place most given room blocks heads i false) (static_or_declared_laws i)
      (λ s a n j d last. is_kind _ _ (initializer_brace i false s a n j d)) (λ s a n j d last. (longer_start i s a n j d).1))
      (λ s a n j d last. is_kind _ _ d.kind) (λ s a n j d last. no_semicolon i s a n j d)

  pub member_laws : Laws most (r.member place most room) (λ s a i j. Member place s a i j) Any (DeepMember room)
  unfolding r.member
  member_laws = renamed (λ s a i j. Member place s a i j) Any (start {D = MemberBy place most} member_by_laws) (to_member place most) (λ s a i j d. from_member place most s d) (λ a x e. e)

  -- a member does not begin with the brace that ends a class
  pub member_inside : (s : Text) {a : MemberTree} {i j : ℕ} → Member place s a i j → inside (terminal (s i)) ≡ true
  member_inside s {a} {i} {j} d = of (from_member place most s d)
    where
      of : MemberBy place most i s a i j → inside (terminal (s i)) ≡ true
      of (inl x) = ap inside x.kind ∙ sign_facts.3
      of (inr (inl x)) = ap inside (initializer_brace i false s a i j x) ∙ sign_facts.4
      of (inr (inr x)) = (longer_start i s a i j x).2
