-- The parts of a member in the order in which they are read, and that they are a member of the grammar.
use Rattle.std.proofs.Common.{◌≡◌, ℕ, suc, inl, inr, Bool, true, false, refl, ap, ◌∙◌, subst, List, Option, Some, None}
use Rattle.bj_base.specs.declared.span.Span.{Span}
use Rattle.bj_expr_tree.specs.declared.types.NamedPlace.{NamedPlace}
use Rattle.bj_expr_tree.specs.declared.types.TypeTree.{TypeTree}
use Rattle.bj_tree.specs.declared.stmt.VariableTree.{VariableTree}
use Rattle.bj_tree.specs.declared.stmt.StmtTree.{StmtTree}
use Rattle.bj_tree.specs.declared.class.Modifier.{Modifier}
use Rattle.bj_tree.specs.declared.class.AnnotationTree.{AnnotationTree}
use Rattle.bj_tree.specs.declared.member.ParameterTree.{ParameterTree}
use Rattle.bj_tree.specs.declared.member.MemberTree.{MemberTree}
use Rattle.bj_tree.specs.declared.member.MemberTree.TheVariants as m
use Rattle.bj_grammar.specs.declared.terminal.Terminal.TheVariants as t
use Rattle.bj_grammar.specs.Terminal.{terminal}
use Rattle.bj_grammar.specs.Reader.{Text}
use Rattle.bj_grammar.proofs.Laws.{Rel, Then, Same, Word, Either}
use Rattle.bj_expr.specs.Grammar.{TypeAt}
use Rattle.bj_stmt.specs.Grammar.{named, Variables, Block, ConstructorBody}
use Rattle.bj_class.specs.Grammar as g
use Rattle.bj_class.specs.Grammar.{MaybeStatic, MaybeNames, Annotations, ModifierList, Formals, ResultAt, MaybeBody, Member}
use Rattle.bj_class.proofs.LawSteps.{take_end, put_end, Called, take_name, put_name}

module _ (place : ℕ → Span) (most : ℕ) where
  -- ---- trees

  abbrev pub method_of : ℕ → List AnnotationTree → List Modifier → Option TypeTree → NamedPlace → List ParameterTree → List NamedPlace → Option StmtTree → MemberTree
  method_of i notes ms result x ps ts b = m.Method (record { at = place i; annotations = notes; modifiers = ms; default = None; result = result; name = x; parameters = ps; throws = ts; body = b })

  abbrev pub field_of : ℕ → List AnnotationTree → List Modifier → TypeTree → List VariableTree → MemberTree
  field_of i notes ms ty vs = m.Field (record { at = place i; annotations = notes; modifiers = ms; of = ty; variables = vs })

  abbrev pub constructor_of : ℕ → List AnnotationTree → List Modifier → NamedPlace → List ParameterTree → List NamedPlace → StmtTree → MemberTree
  constructor_of i notes ms x ps ts b = m.Constructor (record { at = place i; annotations = notes; modifiers = ms; name = x; parameters = ps; throws = ts; body = b })

  abbrev pub initializer_of : ℕ → Bool → StmtTree → MemberTree
  initializer_of i f b = m.Initializer (record { at = place i; is_static = f; body = b })

  -- ---- parts

  abbrev FormalsRel : Rel (List ParameterTree)
  FormalsRel = λ s a i j. Formals place s a i j

  abbrev ThrowsRel : Rel (List NamedPlace)
  ThrowsRel = λ s a i j. MaybeNames t.Throws place s a i j

  abbrev BodyRel : Rel (Option StmtTree)
  BodyRel = λ s a i j. MaybeBody place s a i j

  abbrev ConstructorBodyRel : Rel StmtTree
  ConstructorBodyRel = λ s a i j. ConstructorBody place s a i j

  abbrev BlockRel : Rel StmtTree
  BlockRel = λ s a i j. Block place s a i j

  -- behind the name of a method
  abbrev pub MethodRest : ℕ → List AnnotationTree → List Modifier → Option TypeTree → NamedPlace → Rel MemberTree
  MethodRest i notes ms result x = Then FormalsRel (λ ps. Then ThrowsRel (λ ts. Then BodyRel (λ b. Same (method_of i notes ms result x ps ts b))))

  abbrev pub NamedMethod : ℕ → List AnnotationTree → List Modifier → Option TypeTree → Rel MemberTree
  NamedMethod i notes ms result = Called place most (MethodRest i notes ms result)

  abbrev pub VoidMethod : ℕ → List AnnotationTree → List Modifier → Rel MemberTree
  VoidMethod i notes ms = Word t.Void (λ _. NamedMethod i notes ms None)

  -- behind the type of fields
  abbrev pub FieldsRest : ℕ → List AnnotationTree → List Modifier → TypeTree → Rel MemberTree
  FieldsRest i notes ms ty = Then (λ s a i j. Variables place s a i j) (λ vs. Word t.Semicolon (λ _. Same (field_of i notes ms ty vs)))

  abbrev pub MethodOrFields : ℕ → List AnnotationTree → List Modifier → TypeTree → Rel MemberTree
  MethodOrFields i notes ms ty = Either (NamedMethod i notes ms (Some ty)) (FieldsRest i notes ms ty)

  abbrev pub Typed : ℕ → List AnnotationTree → List Modifier → Rel MemberTree
  Typed i notes ms = Then (λ s a i j. TypeAt place s a i j) (MethodOrFields i notes ms)

  -- behind the name of a constructor
  abbrev pub ConstructorRest : ℕ → List AnnotationTree → List Modifier → NamedPlace → Rel MemberTree
  ConstructorRest i notes ms x = Then FormalsRel (λ ps. Then ThrowsRel (λ ts. Then ConstructorBodyRel (λ b. Same (constructor_of i notes ms x ps ts b))))

  abbrev pub Constructed : ℕ → List AnnotationTree → List Modifier → Rel MemberTree
  Constructed i notes ms = Called place most (ConstructorRest i notes ms)

  abbrev pub ConstructedOrTyped : ℕ → List AnnotationTree → List Modifier → Rel MemberTree
  ConstructedOrTyped i notes ms = Either (Constructed i notes ms) (Typed i notes ms)

  -- behind annotations and modifiers
  abbrev pub Core : ℕ → List AnnotationTree → List Modifier → Rel MemberTree
  Core i notes ms = Either (VoidMethod i notes ms) (ConstructedOrTyped i notes ms)

  abbrev pub Declared : ℕ → Rel MemberTree
  Declared i = Then (λ s a i j. Annotations place s a i j) (λ notes. Then (λ s a i j. ModifierList place s a i j) (Core i notes))

  abbrev pub Initializer : ℕ → Bool → Rel MemberTree
  Initializer i f = Then BlockRel (λ b. Same (initializer_of i f b))

  abbrev pub StaticBlock : ℕ → Rel MemberTree
  StaticBlock i = Word t.Static (λ _. Initializer i true)

  abbrev pub StaticOrDeclared : ℕ → Rel MemberTree
  StaticOrDeclared i = Either (StaticBlock i) (Declared i)

  abbrev pub MemberBy : ℕ → Rel MemberTree
  MemberBy i = Either (Word t.Semicolon (λ _. Same (m.Empty (place i)))) (Either (Initializer i false) (StaticOrDeclared i))

  -- ---- the same in the grammar's words

  to_method : (s : Text) (a : MemberTree) (notes : List AnnotationTree) (ms : List Modifier) (result : Option TypeTree) (i k n o j : ℕ) → Annotations place s notes i k → ModifierList place s ms k n → ResultAt place s result n o
      → NamedMethod i notes ms result s a o j → Member place s a i j
  to_method s a notes ms result i k n o j d e h c =
      let x = take_name place most (MethodRest i notes ms result) s a o j c in
      let b = take_end BodyRel (method_of i notes ms result (named (place o) (s o)) x.1.part x.1.rest.part) s a x.1.rest.at j x.1.rest.rest in
      g.method d e h x.0 x.1.first x.1.rest.first b.first b.tree

  to_constructed : (s : Text) (a : MemberTree) (notes : List AnnotationTree) (ms : List Modifier) (i k n j : ℕ) → Annotations place s notes i k → ModifierList place s ms k n → Constructed i notes ms s a n j → Member place s a i j
  to_constructed s a notes ms i k n j d e c =
      let x = take_name place most (ConstructorRest i notes ms) s a n j c in
      let b = take_end ConstructorBodyRel (constructor_of i notes ms (named (place n) (s n)) x.1.part x.1.rest.part) s a x.1.rest.at j x.1.rest.rest in
      g.constructor d e x.0 x.1.first x.1.rest.first b.first b.tree

  to_typed : (s : Text) (a : MemberTree) (notes : List AnnotationTree) (ms : List Modifier) (i k n j : ℕ) → Annotations place s notes i k → ModifierList place s ms k n → Typed i notes ms s a n j → Member place s a i j
  to_typed s a notes ms i k n j d e c = of c.rest
    where
      of : MethodOrFields i notes ms c.part s a c.at j → Member place s a i j
      of (inl x) = to_method s a notes ms (Some c.part) i k n c.at j d e (g.gives c.first refl) x
      of (inr x) = g.fields d e c.first x.first x.rest.kind x.rest.rest.tree x.rest.rest.at

  to_core : (s : Text) (a : MemberTree) (notes : List AnnotationTree) (ms : List Modifier) (i k n j : ℕ) → Annotations place s notes i k → ModifierList place s ms k n → Core i notes ms s a n j → Member place s a i j
  to_core s a notes ms i k n j d e (inl c) = to_method s a notes ms None i k n (suc n) j d e (g.void c.kind refl refl) c.rest
  to_core s a notes ms i k n j d e (inr (inl c)) = to_constructed s a notes ms i k n j d e c
  to_core s a notes ms i k n j d e (inr (inr c)) = to_typed s a notes ms i k n j d e c

  to_initializer : (s : Text) (a : MemberTree) (f : Bool) (i k j : ℕ) → MaybeStatic s f i k → Initializer i f s a k j → Member place s a i j
  to_initializer s a f i k j d c = let b = take_end BlockRel (initializer_of i f) s a k j c in g.initializer d b.first b.tree

  pub to_member : (s : Text) (a : MemberTree) (i j : ℕ) → MemberBy i s a i j → Member place s a i j
  to_member s a i j (inl d) = g.empty d.kind d.rest.tree d.rest.at
  to_member s a i j (inr (inl d)) = to_initializer s a false i i j (g.not_static refl refl) d
  to_member s a i j (inr (inr (inl d))) = to_initializer s a true i (suc i) j (g.static d.kind refl refl) d.rest
  to_member s a i j (inr (inr (inr d))) = to_core s a d.part d.rest.part i d.at d.rest.at j d.first d.rest.first d.rest.rest

  from_method : (s : Text) (a : MemberTree) (notes : List AnnotationTree) (ms : List Modifier) (result : Option TypeTree) (ps : List ParameterTree) (ts : List NamedPlace) (b : Option StmtTree) (i o q p j : ℕ) → terminal (s o) ≡ t.Word → Formals place s ps (suc o) q
      → MaybeNames t.Throws place s ts q p → MaybeBody place s b p j → a ≡ method_of i notes ms result (named (place o) (s o)) ps ts b → NamedMethod i notes ms result s a o j
  from_method s a notes ms result ps ts b i o q p j w d h c e = put_name place most (MethodRest i notes ms result) s a o j w (record {
    part = ps;
    at = q;
    first = d;
    rest = record { part = ts; at = p; first = h; rest = record { part = b; at = j; first = c; rest = record { tree = e; at = refl } } };
  })

  from_declared : (s : Text) (a : MemberTree) (notes : List AnnotationTree) (ms : List Modifier) (i k n j : ℕ) → Annotations place s notes i k → ModifierList place s ms k n → Core i notes ms s a n j → MemberBy i s a i j
  from_declared s a notes ms i k n j d e c = inr (inr (inr (record { part = notes; at = k; first = d; rest = record { part = ms; at = n; first = e; rest = c } })))

  from_initializer : (s : Text) (a : MemberTree) (f : Bool) (b : StmtTree) (i k j : ℕ) → MaybeStatic s f i k → Block place s b k j → a ≡ initializer_of i f b → MemberBy i s a i j
  from_initializer s a f b i k j (g.not_static f_is at) d e = inr (inl (subst (λ (z : ℕ). Initializer i false s a z j) at (put_end BlockRel (initializer_of i false) s b a k j d (e ∙ ap (λ (z : Bool). initializer_of i z b) f_is))))
  from_initializer s a f b i k j (g.static o f_is at) d e = inr (inr (inl (record {
    kind = o;
    rest = subst (λ (z : ℕ). Initializer i true s a z j) at (put_end BlockRel (initializer_of i true) s b a k j d (e ∙ ap (λ (z : Bool). initializer_of i z b) f_is));
  })))

  pub from_member : (s : Text) {a : MemberTree} {i j : ℕ} → Member place s a i j → MemberBy i s a i j
  from_member s {a} {i} {j} (g.fields {notes = notes} {ms = ms} {ty = ty} {vs = vs} {k = k} {n = n} {o = o} {q = q} d e typ v c same at) = from_declared s a notes ms i k n j d e
      (inr (inr (record { part = ty; at = o; first = typ; rest = inr (record { part = vs; at = q; first = v; rest = record { kind = c; rest = record { tree = same; at = at } } }) })))
  from_member s {a} {i} {j} (g.method {notes = notes} {ms = ms} {ps = ps} {ts = ts} {b = b} {k = k} {n = n} {o = o} {q = q} {p = p} d e (g.void v so at) w f h c same) = from_declared s a notes ms i k n j d e
      (inl (record { kind = v; rest = subst (λ (z : ℕ). NamedMethod i notes ms None s a z j) at (subst (λ (z : Option TypeTree). NamedMethod i notes ms z s a o j) so (from_method s a notes ms _ ps ts b i o q p j w f h c same)) }))
  from_member s {a} {i} {j} (g.method {notes = notes} {ms = ms} {ps = ps} {ts = ts} {b = b} {k = k} {n = n} {o = o} {q = q} {p = p} d e (g.gives {ty = ty} typ so) w f h c same) = from_declared s a notes ms i k n j d e
      (inr (inr (record { part = ty; at = o; first = typ; rest = inl (subst (λ (z : Option TypeTree). NamedMethod i notes ms z s a o j) so (from_method s a notes ms _ ps ts b i o q p j w f h c same)) })))
  from_member s {a} {i} {j} (g.constructor {notes = notes} {ms = ms} {ps = ps} {ts = ts} {b = b} {k = k} {n = n} {q = q} {p = p} d e w f h c same) = from_declared s a notes ms i k n j d e
      (inr (inl (put_name place most (ConstructorRest i notes ms) s a n j w (record {
        part = ps;
        at = q;
        first = f;
        rest = record { part = ts; at = p; first = h; rest = record { part = b; at = j; first = c; rest = record { tree = same; at = refl } } };
      }))))
  from_member s {a} {i} {j} (g.initializer {f = f} {b = b} {k = k} d c same) = from_initializer s a f b i k j d c same
  from_member s (g.empty o same at) = inl (record { kind = o; rest = record { tree = same; at = at } })
