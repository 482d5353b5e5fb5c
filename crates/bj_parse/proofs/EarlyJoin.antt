-- The judgement on the marks of heads and of members, from what is proved of the places that modifiers may belong to.
use Rattle.std.proofs.Common.{◌≡◌, ℕ, suc, ◌<◌, ◌≤◌, ◌⊎◌, inl, inr, Bool, true, false, List, Option, Some, None, refl, sym, ap, ◌∙◌, arith}
use Rattle.std.specs.Prelude.{◌&&◌, if◌then◌else◌, nat_lt}
use Rattle.std.proofs.lemmas.Bool.{both_ways, cases_Bool, cases_lt, ltb-true}
use Rattle.bj_base.specs.declared.span.Span.{Span}
use Rattle.bj_token.specs.declared.token.Token.{Token}
use Rattle.bj_expr_tree.specs.declared.types.TypeTree.{TypeTree}
use Rattle.bj_tree.specs.declared.class.ClassKind.{ClassKind}
use Rattle.bj_tree.specs.declared.member.MemberTree.{MemberTree}
use Rattle.bj_rules.specs.declared.misfit.Misfit.{Misfit}
use Rattle.bj_rules.specs.declared.place.Place.{Place}
use Rattle.bj_grammar.specs.declared.terminal.Terminal.TheVariants as t
use Rattle.bj_grammar.specs.Terminal.{terminal, same_terminal, among}
use Rattle.bj_grammar.specs.Reader.{Text, Wrong}
use Rattle.bj_grammar.specs.Given.{text_of, place_of}
use Rattle.bj_grammar.proofs.Laws.{Laws, Completes, halted}
use Rattle.bj_expr.specs.Grammar as ge
use Rattle.bj_expr.specs.Grammar.{TypeAt}
use Rattle.bj_stmt.proofs.Leftmost.{is_not}
use Rattle.bj_stmt.proofs.Expressions.{Never}
use Rattle.bj_stmt.proofs.Small.{Any}
use Rattle.bj_class.specs.Grammar as g
use Rattle.bj_class.specs.Grammar.{Member, ResultAt}
use Rattle.bj_class.specs.Reading as r
use Rattle.bj_class.specs.Reading.{is_static_block}
use Rattle.bj_class.proofs.HeadLaws.{head_laws}
use Rattle.bj_class.proofs.MemberTokens.{core_words, declared_no_block, type_is_core, void_is_core, word_is_type}
use Rattle.bj_class.proofs.NoteLaws.{annotation_begins, annotations_first}
use Rattle.bj_parse.specs.Early.{head_places, member_places, unfit_mark, early_head, early_member}
use Rattle.bj_parse.specs.Marks.{MayHave, NoneBegins, of_annotation, of_modifier, head_place, member_place}
use Rattle.bj_parse.proofs.Owners.{OwnerLaws}
use Rattle.bj_parse.proofs.EarlyNeeded.{HeadRel, MemberRel, UnfitOfHead, UnfitOfMember, Early}
use Rattle.bj_parse.proofs.EarlyLaws.{Marks, most_of, early_is, early_met}
use Rattle.bj_parse.proofs.EarlyFresh.{fresh_head, fresh_member}
use Rattle.bj_parse.proofs.EarlyWhole.{head_begins, member_begins, head_whole, member_whole}

-- the tokens of a static block were looked at
abbrev pub is_block : List Token → ℕ → ℕ → Bool
is_block tokens n k = is_static_block (text_of tokens) n && nat_lt (suc n) k

-- What is asked of the places that modifiers may belong to, where a part goes wrong at k. It does not hold of a static block, whose first token is read as a modifier.
pub record EveryOwned (tokens : List Token) (room : ℕ) : Type 0 where
  pub heads : (n k : ℕ) → r.head (place_of tokens) (most_of tokens) (text_of tokens) n ≡ Wrong k
      → OwnerLaws (HeadRel (place_of tokens)) head_place (place_of tokens) (most_of tokens) (text_of tokens) n k (λ q. head_places (text_of tokens) q k)
  pub members : (kind : ClassKind) (n k : ℕ) → r.member (place_of tokens) (most_of tokens) room (text_of tokens) n ≡ Wrong k → is_block tokens n k ≡ false
      → OwnerLaws (MemberRel (place_of tokens)) (member_place kind) (place_of tokens) (most_of tokens) (text_of tokens) n k (λ q. member_places (place_of tokens) (most_of tokens) kind (text_of tokens) q k)

both : (a b : Bool) → (a && b) ≡ true → (a ≡ true) × (b ≡ true)
both true b e = (refl, e)
both false b e = absurd (cc)

at_no_static : same_terminal t.At t.Static ≡ false
unfolding same_terminal
at_no_static = refl

module _ (tokens : List Token) (room : ℕ) (marks : Marks tokens) (owned : EveryOwned tokens room)
    (T : Span → MemberTree → Type 0) (member_laws : Laws (most_of tokens) (r.member (place_of tokens) (most_of tokens) room) (MemberRel (place_of tokens)) Any T) where
  -- ---- heads

  head_early : (n k : ℕ) (x : Misfit) → r.head (place_of tokens) (most_of tokens) (text_of tokens) n ≡ Wrong k → early_head (place_of tokens) (most_of tokens) (text_of tokens) n k ≡ Some x
      → UnfitOfHead tokens n x
  unfolding early_head
  head_early n k x wrong told =
      let w = owned.heads n k wrong in
      early_is (HeadRel (place_of tokens)) head_place tokens marks n k (λ q. head_places (text_of tokens) q k) w
      (r.head (place_of tokens) (most_of tokens)) Never (head_laws (place_of tokens) (most_of tokens)) wrong (λ i q ms behind found low. fresh_head tokens marks n i q ms behind found) x told

  head_met : (n k : ℕ) (x : Misfit) → UnfitOfHead tokens n x → r.head (place_of tokens) (most_of tokens) (text_of tokens) n ≡ Wrong k
      → (y : Misfit) × (early_head (place_of tokens) (most_of tokens) (text_of tokens) n k ≡ Some y)
  unfolding early_head
  head_met n k x u wrong =
      let w = owned.heads n k wrong in
      early_met (HeadRel (place_of tokens)) head_place tokens marks n k (λ q. head_places (text_of tokens) q k) w
      (r.head (place_of tokens) (most_of tokens)) Never (head_laws (place_of tokens) (most_of tokens)) wrong (λ i q ms behind found low. fresh_head tokens marks n i q ms behind found) x u

  -- ---- a static block has no marks

  type_core : (u : Text) {a : TypeTree} {i j : ℕ} → TypeAt (place_of tokens) u a i j → among core_words (terminal (u i)) ≡ true
  type_core u {i = i} (ge.named o d e) = type_is_core (terminal (u i)) o

  result_core : (u : Text) {a : Option TypeTree} {i j : ℕ} → ResultAt (place_of tokens) u a i j → among core_words (terminal (u i)) ≡ true
  result_core u {i = i} (g.void o e at) = void_is_core (terminal (u i)) o
  result_core u (g.gives d e) = type_core u d

  -- a member with modifiers, or with a place for them, is no static block
  member_no_block : (kind : ClassKind) (u : Text) (a : MemberTree) (n j : ℕ) (owner : Place) → Member (place_of tokens) u a n j → member_place kind a ≡ Some owner → is_static_block u n ≡ false
  member_no_block kind u a n j owner (g.fields d ms type vs end is at) has = declared_no_block (place_of tokens) u d ms (type_core u type)
  member_no_block kind u a n j owner (g.method d ms result name parameters throws rest is) has = declared_no_block (place_of tokens) u d ms (result_core u result)
  member_no_block kind u a n j owner (g.constructor {n = q} d ms name parameters throws rest is) has =
      declared_no_block (place_of tokens) u d ms (type_is_core (terminal (u q)) (word_is_type (terminal (u q)) name))
  member_no_block kind u a n j owner (g.initializer f b is) has = let none : None ≡ Some owner = sym (ap (member_place kind) is) ∙ has in absurd (cc)
  member_no_block kind u a n j owner (g.empty o is at) has = let none : None ≡ Some owner = sym (ap (member_place kind) is) ∙ has in absurd (cc)

  no_block : (kind : ClassKind) (n k : ℕ) (x : Misfit) → UnfitOfMember tokens kind n x → r.member (place_of tokens) (most_of tokens) room (text_of tokens) n ≡ Wrong k → is_block tokens n k ≡ false
  no_block kind n k x u wrong = elim (cases_Bool (is_block tokens n k)) [ inl e ↦ absurd (refuted u e) | inr e ↦ e ]
    where
      begun : Completes (MemberRel (place_of tokens)) (text_of tokens) n k
      begun = member_laws.viable (text_of tokens) n k (ap halted wrong)

      -- the first two tokens are those of the part that the modifiers belong to
      of : (m : ℕ) (owner : Place) → MayHave (MemberRel (place_of tokens)) (member_place kind) (place_of tokens) (text_of tokens) n m owner → suc n < m → is_static_block (text_of tokens) n ≡ true → ⊥
      of m owner may low is =
          let one : may.text n ≡ text_of tokens n = may.same n (omega arith) in
          let two : may.text (suc n) ≡ text_of tokens (suc n) = may.same (suc n) low in
          let moved : is_static_block may.text n ≡ is_static_block (text_of tokens) n
          = ap (λ (v : Token). same_terminal (terminal v) t.Static && same_terminal (terminal (may.text (suc n))) t.LeftBrace) one
          ∙ ap (λ (v : Token). same_terminal (terminal (text_of tokens n)) t.Static && same_terminal (terminal v) t.LeftBrace) two in
          both_ways (is_static_block may.text n) (member_no_block kind may.text may.tree n may.after owner may.stands may.has) (moved ∙ is)

      behind : (m : ℕ) → (m < k) ⊎ (k ≤ m) → NoneBegins (MemberRel (place_of tokens)) (member_place kind) (place_of tokens) (text_of tokens) n (suc m) → k ≤ m
      behind m (inl h) none = absurd (none begun.text begun.tree begun.after (λ z l. begun.same z (omega arith)) begun.stands)
      behind m (inr h) none = h

      refuted : UnfitOfMember tokens kind n x → is_block tokens n k ≡ true → ⊥
      refuted (of_annotation {note = note} {i = i} {j = j} d fit one whole misfit) e =
          let first_word = annotations_first (place_of tokens) (most_of tokens) (λ y. y ≡ t.At) (text_of tokens) (λ y h. h) d
          (annotation_begins (place_of tokens) (most_of tokens) (text_of tokens) note i j one).0 in
          let block = both (is_static_block (text_of tokens) n) (nat_lt (suc n) k) e in
          let static = both (same_terminal (terminal (text_of tokens n)) t.Static) _ block.0 in
          both_ways (same_terminal (terminal (text_of tokens n)) t.Static) (is_not (terminal (text_of tokens n)) t.At t.Static first_word at_no_static) static.0
      refuted (of_modifier {owner = owner} {k = m} d fit ms word low none each_fits may misfit no_fit) e =
          let block = both (is_static_block (text_of tokens) n) (nat_lt (suc n) k) e in
          let looked : suc n < k = ltb-true (suc n) k block.1 in
          let end : k ≤ m = behind m (cases_lt m k) none in
          of m owner may (omega arith) block.0

  -- ---- members

  member_early : (kind : ClassKind) (n k : ℕ) (x : Misfit) → r.member (place_of tokens) (most_of tokens) room (text_of tokens) n ≡ Wrong k
      → early_member (place_of tokens) (most_of tokens) kind (text_of tokens) n k ≡ Some x → UnfitOfMember tokens kind n x
  unfolding early_member
  member_early kind n k x wrong told = of (is_block tokens n k) refl told
    where
      owners : ℕ → List Place
      owners q = member_places (place_of tokens) (most_of tokens) kind (text_of tokens) q k

      of : (b : Bool) → is_block tokens n k ≡ b → (if b then None else unfit_mark (place_of tokens) (most_of tokens) owners (text_of tokens) n) ≡ Some x → UnfitOfMember tokens kind n x
      of true is e = absurd (cc)
      of false is e =
          let w = owned.members kind n k wrong is in
          early_is (MemberRel (place_of tokens)) (member_place kind) tokens marks n k owners w (r.member (place_of tokens) (most_of tokens) room) T member_laws wrong (λ i q ms behind found low. fresh_member tokens marks n i q ms behind found) x e

  member_met : (kind : ClassKind) (n k : ℕ) (x : Misfit) → UnfitOfMember tokens kind n x → r.member (place_of tokens) (most_of tokens) room (text_of tokens) n ≡ Wrong k
      → (y : Misfit) × (early_member (place_of tokens) (most_of tokens) kind (text_of tokens) n k ≡ Some y)
  unfolding early_member
  member_met kind n k x u wrong =
      let none = no_block kind n k x u wrong in
      let w = owned.members kind n k wrong none in
      let v = early_met (MemberRel (place_of tokens)) (member_place kind) tokens marks n k (λ q. member_places (place_of tokens) (most_of tokens) kind (text_of tokens) q k) w
      (r.member (place_of tokens) (most_of tokens) room) T member_laws wrong (λ i q ms behind found low. fresh_member tokens marks n i q ms behind found) x u in
      (v.0, ap (λ (b : Bool). if b then None else unfit_mark (place_of tokens) (most_of tokens) (λ q. member_places (place_of tokens) (most_of tokens) kind (text_of tokens) q k) (text_of tokens) n) none ∙ v.1)

  pub early : Early tokens (most_of tokens) room
  early = record {
    head_early = head_early;
    head_met = head_met;
    head_whole = head_whole tokens marks;
    head_begins = head_begins tokens;
    member_early = member_early;
    member_met = member_met;
    member_whole = member_whole tokens marks;
    member_begins = member_begins tokens;
  }
