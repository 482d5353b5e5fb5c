-- The laws of the reader of members up to the brace that ends a class.
use Rattle.std.proofs.Common.{◌≡◌, ℕ, ◌<◌, ◌≤◌, inl, inr, Bool, false, refl, sym, ap, ◌∙◌, subst, arith, List, [], ◌∷◌, ◌++◌, Option}
use Rattle.bj_base.specs.declared.span.Span.{Span}
use Rattle.bj_tree.specs.declared.member.MemberTree.{MemberTree}
use Rattle.bj_expr_tree.specs.declared.types.TypeTree.{TypeTree}
use Rattle.bj_grammar.specs.declared.terminal.Terminal.TheVariants as t
use Rattle.bj_grammar.specs.Terminal.{same_terminal}
use Rattle.bj_grammar.specs.Reader.{Text}
use Rattle.bj_grammar.proofs.Laws.{Rel, Laws, Then, Same, Steps, done, pure_laws, steps_end, steps_fold, seq, renamed, rep}
use Rattle.bj_stmt.specs.Reading.{inside}
use Rattle.bj_stmt.proofs.Expressions.{Given}
use Rattle.bj_stmt.proofs.Small.{Any, Before, variables_laws}
use Rattle.bj_class.specs.Grammar as g
use Rattle.bj_class.specs.Grammar.{MaybeStatic, ResultAt, Member, Members}
use Rattle.bj_class.specs.Reading as r
use Rattle.bj_class.specs.Deep.{DeepMember, DeepMembers}
use Rattle.bj_class.proofs.Needed.{Blocks, Heads}
use Rattle.bj_class.proofs.LawSteps.{take_end, put_end}
use Rattle.bj_class.proofs.ParameterLaws.{formals_forward}
use Rattle.bj_class.proofs.BodyLaws.{maybe_body_laws}
use Rattle.bj_class.proofs.MemberLaws.{member_laws, member_inside}

-- ---- depth in a list

pub deep_before : (room : ℕ) (at : Span) (ms : List MemberTree) (c : MemberTree) → DeepMembers room at ms → DeepMembers room at (ms ++ c ∷ [])
deep_before room at [] c h = absurd h
deep_before room at (a ∷ ms) c (inl h) = inl h
deep_before room at (a ∷ ms) c (inr h) = inr (deep_before room at ms c h)

pub deep_end : (room : ℕ) (at : Span) (ms : List MemberTree) (c : MemberTree) → DeepMember room at c → DeepMembers room at (ms ++ c ∷ [])
deep_end room at [] c h = inl h
deep_end room at (a ∷ ms) c h = inr (deep_end room at ms c h)

brace_inside : inside t.RightBrace ≡ false
unfolding same_terminal
brace_inside = refl

module _ (place : ℕ → Span) (most : ℕ) (given : Given place most) (room : ℕ) (blocks : Blocks place most room) (heads : Heads place most) where
  -- ---- a member has a token at least

  static_forward : (s : Text) {f : Bool} {i j : ℕ} → MaybeStatic s f i j → i ≤ j
  static_forward s (g.not_static e at) = omega arith
  static_forward s (g.static o e at) = omega arith

  result_forward : (s : Text) {a : Option TypeTree} {i j : ℕ} → ResultAt place s a i j → i ≤ j
  result_forward s (g.void o e at) = omega arith
  result_forward s {i = i} {j = j} (g.gives {ty = ty} d e) = let h = given.type_forward s ty i j d in omega arith

  pub member_forward : (s : Text) {a : MemberTree} {i j : ℕ} → Member place s a i j → i < j
  member_forward s {i = i} (g.fields {notes = notes} {ms = ms} {ty = ty} {vs = vs} {k = k} {n = n} {o = o} {q = q} d e typ v c same at) =
      let h1 = heads.annotations_laws.shape.forward s notes i k d in
      let h2 = heads.modifiers_laws.shape.forward s ms k n e in
      let h3 = given.type_forward s ty n o typ in
      let h4 = (variables_laws place most given room).shape.forward s vs o q v in
      omega arith
  member_forward s {i = i} {j = j} (g.method {notes = notes} {ms = ms} {ts = ts} {b = b} {k = k} {n = n} {q = q} {p = p} d e result w f h c same) =
      let h1 = heads.annotations_laws.shape.forward s notes i k d in
      let h2 = heads.modifiers_laws.shape.forward s ms k n e in
      let h3 = result_forward s result in
      let h4 = formals_forward place most given s f in
      let h5 = (heads.names_laws t.Throws refl).shape.forward s ts q p h in
      let h6 = (maybe_body_laws place most given room blocks heads).shape.forward s b p j c in
      omega arith
  member_forward s {i = i} {j = j} (g.constructor {notes = notes} {ms = ms} {ts = ts} {b = b} {k = k} {n = n} {q = q} {p = p} d e w f h c same) =
      let h1 = heads.annotations_laws.shape.forward s notes i k d in
      let h2 = heads.modifiers_laws.shape.forward s ms k n e in
      let h3 = formals_forward place most given s f in
      let h4 = (heads.names_laws t.Throws refl).shape.forward s ts q p h in
      let h5 = (blocks.body_begins s b p j c).1 in
      omega arith
  member_forward s {i = i} {j = j} (g.initializer {b = b} {k = k} d c same) = let h1 = static_forward s d in let h2 = (blocks.block_begins s b k j c).1 in omega arith
  member_forward s (g.empty o same at) = omega arith

  -- ---- one after another

  abbrev MemberRel : Rel MemberTree
  MemberRel = λ s a i j. Member place s a i j

  abbrev MemberStep : List MemberTree → Rel (List MemberTree)
  MemberStep b = Then MemberRel (λ c. Same (b ++ c ∷ []))

  abbrev MembersBy : Rel (List MemberTree)
  MembersBy = Then (Same []) (λ b v c m k. Steps MemberStep v b c m k)

  abbrev pub MembersRel : Rel (List MemberTree)
  MembersRel = λ s a i j. Members place s a i j

  to_next : (s : Text) (b c : List MemberTree) (i m k : ℕ) → Members place s b i m → MemberStep b s c m k → Members place s c i k
  to_next s b c i m k h o = let w = take_end MemberRel (λ x. b ++ x ∷ []) s c m k o in g.next_member h w.first w.tree

  to_members : (s : Text) (a : List MemberTree) (i j : ℕ) → MembersBy s a i j → Members place s a i j
  to_members s a i j d = steps_fold MemberStep MembersRel s i (λ b c m k h o. to_next s b c i m k h o) d.part a d.at j (g.no_members d.first.tree d.first.at) d.rest

  from_members : (s : Text) {a : List MemberTree} {i j : ℕ} → Members place s a i j → MembersBy s a i j
  from_members s {a} {i} {j} (g.no_members e at) = record { part = a; at = j; first = record { tree = e; at = at }; rest = done refl refl }
  from_members s {a} {i} {j} (g.next_member {b = b} {c = c} {n = n} d x e) =
      let v = from_members s d in
      record { part = v.part; at = v.at; first = v.first; rest = steps_end MemberStep s v.part b a v.at n j v.rest (put_end MemberRel (λ x. b ++ x ∷ []) s c a n j x e) }

  pub members_laws : Laws most (r.members place most room) MembersRel (Before t.RightBrace) (DeepMembers room)
  unfolding r.members r.next_member
  members_laws = renamed MembersRel (Before t.RightBrace)
      (rep {Q = MemberStep} {E = Any} inside (pure_laws most [] Any (DeepMembers room))
      (λ b. seq (member_laws place most given room blocks heads) (λ c. pure_laws most (b ++ c ∷ []) Any (DeepMembers room)) (λ s c m a j d last. tt)
      (λ s c m a j d at h. subst (DeepMembers room at) (sym d.tree) (deep_end room at b c h)))
      (λ s x a i j d. member_inside place most given room blocks heads s d.first)
      (λ s x a i j d. let h = member_forward s d.first in let e = d.rest.at in omega arith)
      (λ a x e. tt)
      (λ s x a i j d at h. subst (DeepMembers room at) (sym d.rest.tree) (deep_before room at x d.part h)))
      to_members (λ s a i j d. from_members s d) (λ a x e. (tt, ap inside e ∙ brace_inside))

  -- members, from none on
  pub member_steps : (s : Text) (a : List MemberTree) (i j : ℕ) → Members place s a i j → Steps MemberStep s [] a i j
  member_steps s a i j d =
      let v = from_members s d in
      subst (λ (k : ℕ). Steps MemberStep s [] a k j) v.first.at (subst (λ (b : List MemberTree). Steps MemberStep s b a v.at j) v.first.tree v.rest)
