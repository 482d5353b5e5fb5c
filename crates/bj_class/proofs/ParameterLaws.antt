-- The laws of the readers of parameters.
use Rattle.std.proofs.Common.{◌≡◌, ℕ, suc, ◌<◌, inl, inr, Bool, true, false, refl, sym, subst, arith, List, [], ◌∷◌, ◌++◌}
use Rattle.bj_base.specs.declared.span.Span.{Span}
use Rattle.bj_expr_tree.specs.declared.types.NamedPlace.{NamedPlace}
use Rattle.bj_expr_tree.specs.declared.types.TypeTree.{TypeTree}
use Rattle.bj_tree.specs.declared.member.ParameterTree.{ParameterTree}
use Rattle.bj_grammar.specs.declared.terminal.Terminal.{Terminal}
use Rattle.bj_grammar.specs.declared.terminal.Terminal.TheVariants as t
use Rattle.bj_grammar.specs.Terminal.{terminal, same_terminal, among}
use Rattle.bj_grammar.specs.Reader.{Text, ◌>>=◌, pure}
use Rattle.bj_grammar.proofs.Laws.{Rel, Laws, Then, Same, Word, Either, Steps, done, pure_laws, steps_end, steps_fold, is_kind, kind_is, seq, alt, tok, start, renamed, rep}
use Rattle.bj_expr.specs.Grammar as ge
use Rattle.bj_expr.specs.Grammar.{type_words, Dims, TypeAt}
use Rattle.bj_expr.specs.Reading.{is, dims}
use Rattle.bj_stmt.specs.Grammar as gs
use Rattle.bj_stmt.specs.Reading as rs
use Rattle.bj_stmt.specs.Grammar.{MaybeFinal}
use Rattle.bj_stmt.proofs.Expressions.{Given, AfterType, Never}
use Rattle.bj_stmt.proofs.Leftmost.{each, is_not}
use Rattle.bj_stmt.proofs.Small.{Any, same_after, final_laws, name_laws, type_no_final}
use Rattle.bj_class.specs.Grammar as g
use Rattle.bj_class.specs.Grammar.{Parameter, Parameters, Formals}
use Rattle.bj_class.specs.Reading as r
use Rattle.bj_class.proofs.LawSteps.{take_end, put_end, Called, take_name, put_name}

sign_facts : (same_terminal t.Word t.LeftBracket ≡ false) × (same_terminal t.Comma t.LeftBracket ≡ false) × (same_terminal t.RightParen t.LeftBracket ≡ false) × (same_terminal t.RightParen t.Comma ≡ false) × (same_terminal t.Final t.RightParen ≡ false)
unfolding same_terminal
sign_facts = (refl, refl, refl, refl, refl)

type_no_paren : (x : Terminal) → among type_words x ≡ true → same_terminal x t.RightParen ≡ false
unfolding same_terminal
type_no_paren = each (λ x. same_terminal x t.RightParen ≡ false) type_words (refl, (refl, (refl, (refl, (refl, tt)))))

module _ (place : ℕ → Span) (most : ℕ) (given : Given place most) where
  abbrev parameter_of : ℕ → Bool → TypeTree → NamedPlace → ℕ → ParameterTree
  parameter_of i f ty x d = record { at = place i; is_final = f; of = ty; name = x; dims = d }

  abbrev DimsRel : Rel ℕ
  DimsRel = λ s a i j. Dims s a i j

  abbrev NamedRest : ℕ → Bool → TypeTree → NamedPlace → Rel ParameterTree
  NamedRest i f ty x = Then DimsRel (λ d. Same (parameter_of i f ty x d))

  abbrev TypedRest : ℕ → Bool → Rel ParameterTree
  TypedRest i f = Then (λ s a i j. TypeAt place s a i j) (λ ty. Called place most (NamedRest i f ty))

  abbrev ParameterBy : ℕ → Rel ParameterTree
  ParameterBy i = Then (λ s a i j. MaybeFinal s a i j) (TypedRest i)

  abbrev ParameterRel : Rel ParameterTree
  ParameterRel = λ s a i j. Parameter place s a i j

  to_parameter : (s : Text) (a : ParameterTree) (i j : ℕ) → ParameterBy i s a i j → Parameter place s a i j
  to_parameter s a i j d =
      let ty = d.rest in
      let x = take_name place most (NamedRest i d.part ty.part) s a ty.at j ty.rest in
      let n = take_end DimsRel (parameter_of i d.part ty.part (gs.named (place ty.at) (s ty.at))) s a (suc ty.at) j x.1 in
      g.parameter d.first ty.first x.0 n.first n.tree

  from_parameter : (s : Text) {a : ParameterTree} {i j : ℕ} → Parameter place s a i j → ParameterBy i s a i j
  from_parameter s {a} {i} {j} (g.parameter {f = f} {ty = ty} {d = d} {k = k} {n = n} fin typ w sizes e) = record {
    part = f;
    at = k;
    first = fin;
    rest = record { part = ty; at = n; first = typ; rest = put_name place most (NamedRest i f ty) s a n j w (put_end DimsRel (parameter_of i f ty (gs.named (place n) (s n))) s d a (suc n) j sizes e) };
  }

  named_laws : (i : ℕ) (f : Bool) (ty : TypeTree) → Laws most (rs.name_at place most >>= λ x. dims place most >>= λ d. pure (parameter_of i f ty x d)) (Called place most (NamedRest i f ty)) AfterType Never
  named_laws i f ty = seq (name_laws place most Any Never)
      (λ x. seq given.dims_laws (λ d. pure_laws most (parameter_of i f ty x d) AfterType Never)
      (λ s d m b j e last. same_after (λ y. same_terminal y t.LeftBracket ≡ false) s (parameter_of i f ty x d) b m j e last) (λ s d m b j e at h. h))
      (λ s x m b j e last. tt) (λ s x m b j e at h. absurd h)

  pub parameter_laws : Laws most (r.parameter place most) ParameterRel AfterType Never
  unfolding r.parameter
  parameter_laws = renamed ParameterRel AfterType
      (start {D = ParameterBy} (λ i. seq (final_laws most) (λ f. seq given.type_laws (λ ty. named_laws i f ty)
      (λ s ty m b j d last. is_not _ t.Word t.LeftBracket d.first.kind sign_facts.0) (λ s ty m b j d at h. absurd h))
      (λ s f m b j d last. type_no_final place s d.first) (λ s f m b j d at h. absurd h)))
      to_parameter (λ s a i j d. from_parameter s d) (λ a x e. e)

  -- ---- parameters with commas between them

  abbrev CommaStep : List ParameterTree → Rel (List ParameterTree)
  CommaStep b = Word t.Comma (λ _. Then ParameterRel (λ x. Same (b ++ x ∷ [])))

  abbrev OneRel : Rel (List ParameterTree)
  OneRel = Then ParameterRel (λ x. Same (x ∷ []))

  abbrev ParametersBy : Rel (List ParameterTree)
  ParametersBy = Then OneRel (λ b v c m k. Steps CommaStep v b c m k)

  abbrev ParametersRel : Rel (List ParameterTree)
  ParametersRel = λ s a i j. Parameters place s a i j

  to_next : (s : Text) (b c : List ParameterTree) (i m k : ℕ) → Parameters place s b i m → CommaStep b s c m k → Parameters place s c i k
  to_next s b c i m k h o = let w = take_end ParameterRel (λ x. b ++ x ∷ []) s c (suc m) k o.rest in g.next_parameter h o.kind w.first w.tree

  to_parameters : (s : Text) (a : List ParameterTree) (i j : ℕ) → ParametersBy s a i j → Parameters place s a i j
  to_parameters s a i j d =
      let w = take_end ParameterRel (λ x. x ∷ []) s d.part i d.at d.first in
      steps_fold CommaStep ParametersRel s i (λ b c m k h o. to_next s b c i m k h o) d.part a d.at j (g.first_parameter w.first w.tree) d.rest

  from_parameters : (s : Text) {a : List ParameterTree} {i j : ℕ} → Parameters place s a i j → ParametersBy s a i j
  from_parameters s {a} {i} {j} (g.first_parameter {x} d e) = record { part = a; at = j; first = put_end ParameterRel (λ x. x ∷ []) s x a i j d e; rest = done refl refl }
  from_parameters s {a} {i} {j} (g.next_parameter {b} {x} {n} d o y e) =
      let v = from_parameters s d in
      record { part = v.part; at = v.at; first = v.first; rest = steps_end CommaStep s v.part b a v.at n j v.rest (record { kind = o; rest = put_end ParameterRel (λ x. b ++ x ∷ []) s x a (suc n) j y e }) }

  parameter_no_paren : (s : Text) {a : ParameterTree} {i j : ℕ} → Parameter place s a i j → same_terminal (terminal (s i)) t.RightParen ≡ false
  parameter_no_paren s {i = i} (g.parameter {k = k} (gs.not_final e0 at) (ge.named o d e1) w sizes e) = subst (λ (z : ℕ). same_terminal (terminal (s z)) t.RightParen ≡ false) at (type_no_paren (terminal (s k)) o)
  parameter_no_paren s {i = i} (g.parameter (gs.final o e0 at) typ w sizes e) = is_not (terminal (s i)) t.Final t.RightParen o sign_facts.4

  parameters_no_paren : (s : Text) {a : List ParameterTree} {i j : ℕ} → Parameters place s a i j → same_terminal (terminal (s i)) t.RightParen ≡ false
  parameters_no_paren s (g.first_parameter d e) = parameter_no_paren s d
  parameters_no_paren s (g.next_parameter d o y e) = parameters_no_paren s d

  -- what may follow parameters
  abbrev pub AfterParameters : {A : Type 0} → A → Terminal → Type 0
  AfterParameters a x = (same_terminal x t.LeftBracket ≡ false) × (same_terminal x t.Comma ≡ false)

  pub parameters_laws : Laws most (r.parameters place most) ParametersRel AfterParameters Never
  unfolding r.parameters r.next_parameter
  parameters_laws = renamed ParametersRel AfterParameters
      (rep {Q = CommaStep} {E = AfterType} (is t.Comma)
      (seq parameter_laws (λ x. pure_laws most (x ∷ []) AfterType Never) (λ s x m b j d last. same_after (λ y. same_terminal y t.LeftBracket ≡ false) s (x ∷ []) b m j d last) (λ s x m b j d at h. absurd h))
      (λ b. tok t.Comma refl (λ _. seq parameter_laws (λ x. pure_laws most (b ++ x ∷ []) AfterType Never)
      (λ s x m c j d last. same_after (λ y. same_terminal y t.LeftBracket ≡ false) s (b ++ x ∷ []) c m j d last) (λ s x m c j d at h. absurd h)))
      (λ s x a i j d. is_kind _ _ d.kind)
      (λ s x a i j d. let h = parameter_laws.shape.forward s d.rest.part (suc i) d.rest.at d.rest.first in let e = d.rest.rest.at in omega arith)
      (λ a x o. is_not x t.Comma t.LeftBracket (kind_is x t.Comma o) sign_facts.1)
      (λ s x a i j d at h. absurd h))
      to_parameters (λ s a i j d. from_parameters s d) (λ a x e. e)

  -- ---- in parentheses

  abbrev FormalsBy : Rel (List ParameterTree)
  FormalsBy = Word t.LeftParen (λ _. Either (Word t.RightParen (λ _. Same [])) (Then ParametersRel (λ ps. Word t.RightParen (λ _. Same ps))))

  to_formals : (s : Text) (a : List ParameterTree) (i j : ℕ) → FormalsBy s a i j → Formals place s a i j
  to_formals s a i j d = of d.rest
    where
      of : Either (Word t.RightParen (λ _. Same [])) (Then ParametersRel (λ ps. Word t.RightParen (λ _. Same ps))) s a (suc i) j → Formals place s a i j
      of (inl x) = g.no_formals d.kind x.kind x.rest.tree x.rest.at
      of (inr x) = g.formals d.kind (subst (λ (ps : List ParameterTree). Parameters place s ps (suc i) x.at) (sym x.rest.rest.tree) x.first) x.rest.kind x.rest.rest.at

  from_formals : (s : Text) {a : List ParameterTree} {i j : ℕ} → Formals place s a i j → FormalsBy s a i j
  from_formals s (g.no_formals o c e at) = record { kind = o; rest = inl (record { kind = c; rest = record { tree = e; at = at } }) }
  from_formals s {a} (g.formals {n = n} o d c at) = record { kind = o; rest = inr (record { part = a; at = n; first = d; rest = record { kind = c; rest = record { tree = refl; at = at } } }) }

  pub formals_laws : Laws most (r.formals place most) (λ s a i j. Formals place s a i j) Any Never
  unfolding r.formals
  formals_laws = renamed (λ s a i j. Formals place s a i j) Any
      (tok t.LeftParen refl (λ _. alt (is t.RightParen) (tok t.RightParen refl (λ _. pure_laws most [] Any Never))
      (seq parameters_laws (λ ps. tok t.RightParen refl (λ _. pure_laws most ps Any Never))
      (λ s ps m b j d last. (is_not _ t.RightParen t.LeftBracket d.kind sign_facts.2, is_not _ t.RightParen t.Comma d.kind sign_facts.3))
      (λ s ps m b j d at h. absurd h))
      (λ s a i j d last. is_kind _ _ d.kind)
      (λ s a i j d last. parameters_no_paren s d.first)))
      to_formals (λ s a i j d. from_formals s d) (λ a x e. e)

  pub formals_paren : (s : Text) {a : List ParameterTree} {i j : ℕ} → Formals place s a i j → terminal (s i) ≡ t.LeftParen
  formals_paren s (g.no_formals o c e at) = o
  formals_paren s (g.formals o d c at) = o

  pub formals_forward : (s : Text) {a : List ParameterTree} {i j : ℕ} → Formals place s a i j → i < j
  formals_forward s (g.no_formals o c e at) = omega arith
  formals_forward s {a} {i} {j} (g.formals {n = n} o d c at) = let h = parameters_laws.shape.forward s a (suc i) n d in omega arith
