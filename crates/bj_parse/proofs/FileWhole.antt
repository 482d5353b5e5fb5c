-- A file, each part of which is checked as it stands, beside the file of the grammar.
use Rattle.std.proofs.Common.{◌≡◌, ℕ, suc, ◌⊎◌, inl, inr, Bool, true, false, cond, List, [], ◌∷◌, ◌++◌, Option, Some, None, refl, sym, ap, ◌∙◌, subst}
use Rattle.bj_base.specs.declared.span.Span.{Span}
use Rattle.bj_token.specs.declared.token.Token.{Token}
use Rattle.bj_tree.specs.declared.class.ImportTree.{ImportTree}
use Rattle.bj_tree.specs.declared.class.ClassTree.{ClassTree}
use Rattle.bj_tree.specs.declared.member.MemberTree.{MemberTree}
use Rattle.bj_rules.specs.declared.misfit.Misfit.{Misfit}
use Rattle.bj_rules.specs.Rules.{head_misfit}
use Rattle.bj_grammar.specs.declared.terminal.Terminal.TheVariants as t
use Rattle.bj_grammar.specs.Terminal.{terminal, same_terminal}
use Rattle.bj_grammar.specs.Reader.{Text, Answer, Found, Wrong, Over, and_then, ◌>>=◌, pure, loop}
use Rattle.bj_grammar.specs.Given.{text_of, place_of}
use Rattle.bj_grammar.proofs.Laws.{Passed, Outcome, and_then_found}
use Rattle.bj_expr.specs.Reading.{is}
use Rattle.bj_stmt.specs.Reading.{inside}
use Rattle.bj_stmt.proofs.Expressions.{Never}
use Rattle.bj_class.specs.declared.head.ClassHead.{ClassHead}
use Rattle.bj_class.specs.Grammar as g
use Rattle.bj_class.specs.Grammar.{Imports, Head, class_tree}
use Rattle.bj_class.specs.Reading as r
use Rattle.bj_parse.specs.Checked.{Checked, Reads, Misfits, then_checked, checked_part, check_head, checked_file, checked_imports, checked_head, checked_members, checked_body, closed}
use Rattle.bj_parse.specs.Early.{early_head}
use Rattle.bj_parse.specs.Class.{ImportsFit, HeadFits, MembersFit, Fits, FirstMisfit, of_import, of_head, of_member, of_mark_of_head, of_mark_of_member}
use Rattle.bj_parse.proofs.EarlyNeeded.{Early}
use Rattle.bj_parse.proofs.Items as items
use Rattle.bj_parse.proofs.Items.{IsHalted, then_found, then_wrong, then_over, then_misfit, then_halted, part_found, part_wrong, part_misfit, part_over, part_halted, passed_halted, over_no_wrong, reads_is}
use Rattle.bj_parse.proofs.FileRun as run
use Rattle.bj_parse.proofs.FileRun.{Parts, misfit_found, misfit_wrong, misfit_is, misfit_no_over, misfit_fit, misfit_met}

module _ (tokens : List Token) (most room : ℕ) (parts : Parts (place_of tokens) most room) (early : Early tokens most room) (file : List ℕ) where
  abbrev P : ℕ → Span
  P = place_of tokens

  abbrev S : Text
  S = text_of tokens

  abbrev plain_imports : Answer (List ImportTree)
  plain_imports = r.imports P most S 0

  abbrev plain_members : ℕ → Answer (List MemberTree)
  plain_members n = r.members P most room S n

  abbrev plain_rest : List ImportTree → ClassHead → ℕ → Answer ClassTree
  plain_rest is h n = and_then (plain_members n) (λ ms o. closed P most room file is h ms S o)

  abbrev plain_body : List ImportTree → ℕ → Answer ClassTree
  plain_body is i = and_then (r.head P most S i) (λ h n. plain_rest is h n)

  abbrev plain_file : Answer ClassTree
  plain_file = r.file_at P most room file S 0

  file_is : plain_file ≡ and_then plain_imports (λ is i. plain_body is i)
  unfolding r.file_at
  file_is = refl

  imports_are : plain_imports ≡ loop most (is t.Import) (λ b. r.import_at P most >>= λ c. pure (b ++ c ∷ [])) [] S 0
  unfolding r.imports r.next_import
  imports_are = refl

  members_are : (n : ℕ) → plain_members n ≡ loop most inside (λ b. r.member P most room >>= λ c. pure (b ++ c ∷ [])) [] S n
  unfolding r.members r.next_member
  members_are n = refl

  checked_is : checked_file P most room file S ≡ then_checked (checked_imports P most room S most [] 0) (λ is i. then_checked (checked_head P most room S i) (λ h n. checked_body P most room file is h S n))
  unfolding checked_file
  checked_is = refl

  -- ---- the imports

  abbrev the_imports : Checked (List ImportTree)
  the_imports = checked_imports P most room S most [] 0

  abbrev the_head : ℕ → Checked ClassHead
  the_head i = checked_head P most room S i

  abbrev the_members : ClassHead → ℕ → Checked (List MemberTree)
  the_members h n = checked_members P most room h S most [] n

  abbrev the_rest : List ImportTree → ClassHead → ℕ → Checked ClassTree
  the_rest is h n = checked_body P most room file is h S n

  abbrev the_body : List ImportTree → ℕ → Checked ClassTree
  the_body is i = then_checked (the_head i) (λ h n. the_rest is h n)

  imports_found : (is : List ImportTree) (i : ℕ) → the_imports ≡ Reads (Found is i) → (plain_imports ≡ Found is i) × ImportsFit is
  imports_found is i e =
      let w = items.found most _ _ _ _ S _ _ _ _ _ _ _ (run.import_items tokens most room parts early) most [] 0 is i tt e in
      (imports_are ∙ w.0, w.1)

  imports_stand : (is : List ImportTree) (i : ℕ) → plain_imports ≡ Found is i → Imports P S is 0 i
  imports_stand is i e = parts.imports_laws.sound S 0 is i e

  -- ---- what stands before the members

  head_found : (i : ℕ) (h : ClassHead) (n : ℕ) → the_head i ≡ Reads (Found h n) → (r.head P most S i ≡ Found h n) × HeadFits h
  head_found i h n e = of (part_found check_head (early_head P most S i) (r.head P most S i) h n e)
    where
      of : (c : ClassHead) × (m : ℕ) × (r.head P most S i ≡ Found c m) × (check_head c m ≡ Reads (Found h n)) → (r.head P most S i ≡ Found h n) × HeadFits h
      of w =
          let v = misfit_found (head_misfit (w.0).annotations (w.0).modifiers (w.0).kind) w.0 h w.1 n w.3 in
          (w.2 ∙ (ap (λ (c : ClassHead). Found c w.1) (sym v.0) ∙ ap (Found h) (sym v.1)), subst HeadFits (sym v.0) v.2)

  head_over : (i n : ℕ) (at : Span) → the_head i ≡ Reads (Over n at) → r.head P most S i ≡ Over n at
  head_over i n at e = of (part_over check_head (early_head P most S i) (r.head P most S i) n at e)
    where
      of : ((c : ClassHead) × (m : ℕ) × (check_head c m ≡ Reads (Over n at))) ⊎ (r.head P most S i ≡ Over n at) → r.head P most S i ≡ Over n at
      of (inl w) = absurd (misfit_no_over (head_misfit (w.0).annotations (w.0).modifiers (w.0).kind) w.0 w.1 n at w.2)
      of (inr e) = e

  head_wrong : (i n : ℕ) → the_head i ≡ Reads (Wrong n) → r.head P most S i ≡ Wrong n
  head_wrong i n e = of (part_wrong check_head (early_head P most S i) (r.head P most S i) n e)
    where
      of : ((c : ClassHead) × (m : ℕ) × (check_head c m ≡ Reads (Wrong n))) ⊎ (r.head P most S i ≡ Wrong n) → r.head P most S i ≡ Wrong n
      of (inl w) = absurd (misfit_wrong (head_misfit (w.0).annotations (w.0).modifiers (w.0).kind) w.0 w.1 n w.2)
      of (inr e) = e

  -- ---- the members

  members_found : (h : ClassHead) (n : ℕ) (ms : List MemberTree) (o : ℕ) → the_members h n ≡ Reads (Found ms o) → (plain_members n ≡ Found ms o) × MembersFit h.kind h.name.name ms
  members_found h n ms o e =
      let w = items.found most _ _ _ _ S _ _ _ _ _ _ _ (run.member_items tokens most room parts early h n) most [] n ms o tt e in
      (members_are n ∙ w.0, w.1)

  -- ---- found

  -- what a file that was read is made of
  pub record Whole (a : ClassTree) (j : ℕ) : Type 0 where
    pub imports : List ImportTree
    pub at_head : ℕ
    pub head : ClassHead
    pub at_members : ℕ
    pub members : List MemberTree
    pub at_end : ℕ
    pub imports_read : plain_imports ≡ Found imports at_head
    pub head_read : r.head P most S at_head ≡ Found head at_members
    pub members_read : plain_members at_members ≡ Found members at_end
    pub closes : closed P most room file imports head members S at_end ≡ Found a j

  pub whole_of : (a : ClassTree) (j : ℕ) → plain_file ≡ Found a j → Whole a j
  whole_of a j e =
      let w = and_then_found plain_imports (λ is i. plain_body is i) a j (sym file_is ∙ e) in
      let v = and_then_found (r.head P most S w.1) (λ h n. plain_rest w.0 h n) a j w.3 in
      let u = and_then_found (plain_members v.1) (λ ms o. closed P most room file w.0 v.0 ms S o) a j v.3 in
      record { imports = w.0; at_head = w.1; head = v.0; at_members = v.1; members = u.0; at_end = u.1; imports_read = w.2; head_read = v.2; members_read = u.2; closes = u.3 }

  -- the tree is that of its parts
  tree_is : (is : List ImportTree) (h : ClassHead) (ms : List MemberTree) (o : ℕ) (a : ClassTree) (j : ℕ) → closed P most room file is h ms S o ≡ Found a j → class_tree file is h ms (P o) ≡ a
  tree_is is h ms o a j e = of (same_terminal (terminal (S o)) t.RightBrace) e
    where
      of : (b : Bool) → cond b (Found (class_tree file is h ms (P o)) (suc o)) (Wrong o) ≡ Found a j → class_tree file is h ms (P o) ≡ a
      of true e = cc
      of false e = absurd (cc)

  plain_of : (is : List ImportTree) (i : ℕ) (h : ClassHead) (n : ℕ) (ms : List MemberTree) (o : ℕ) → plain_imports ≡ Found is i → r.head P most S i ≡ Found h n → plain_members n ≡ Found ms o → plain_file ≡ closed P most room file is h ms S o
  plain_of is i h n ms o x y z =
      file_is ∙ (ap (λ (q : Answer (List ImportTree)). and_then q (λ is i. plain_body is i)) x
      ∙ (ap (λ (q : Answer ClassHead). and_then q (λ h n. plain_rest is h n)) y
      ∙ ap (λ (q : Answer (List MemberTree)). and_then q (λ ms o. closed P most room file is h ms S o)) z))

  pub record FoundFile (a : ClassTree) (j : ℕ) : Type 0 where
    pub plain : plain_file ≡ Found a j
    pub fits : Fits a

  found_of : (is : List ImportTree) (i : ℕ) (h : ClassHead) (n : ℕ) (ms : List MemberTree) (o : ℕ) (a : ClassTree) (j : ℕ) → (plain_imports ≡ Found is i) × ImportsFit is → (r.head P most S i ≡ Found h n) × HeadFits h
      → (plain_members n ≡ Found ms o) × MembersFit h.kind h.name.name ms → closed P most room file is h ms S o ≡ Found a j → FoundFile a j
  found_of is i h n ms o a j x y z ends =
      let tree = tree_is is h ms o a j ends in
      record {
        plain = plain_of is i h n ms o x.0 y.0 z.0 ∙ ends;
        fits = subst Fits tree (record { imports = x.1; head = y.1; members = z.1 });
      }

  pub file_found : (a : ClassTree) (j : ℕ) → checked_file P most room file S ≡ Reads (Found a j) → FoundFile a j
  file_found a j e =
      let w = then_found the_imports (λ is i. the_body is i) a j (sym checked_is ∙ e) in
      let v = then_found (the_head w.1) (λ h n. the_rest w.0 h n) a j w.3 in
      let u = then_found (the_members v.0 v.1) (λ ms o. Reads (closed P most room file w.0 v.0 ms S o)) a j v.3 in
      found_of w.0 w.1 v.0 v.1 u.0 u.1 a j (imports_found w.0 w.1 w.2) (head_found w.1 v.0 v.1 v.2) (members_found v.0 v.1 u.0 u.1 u.2) (reads_is (closed P most room file w.0 v.0 u.0 S u.1) (Found a j) u.3)

  -- ---- stopped by the grammar

  pub file_wrong : (n : ℕ) → checked_file P most room file S ≡ Reads (Wrong n) → plain_file ≡ Wrong n
  file_wrong n e = file_is ∙ of (then_wrong the_imports (λ is i. the_body is i) n (sym checked_is ∙ e))
    where
      at_members : (is : List ImportTree) (h : ClassHead) (i : ℕ) → ((ms : List MemberTree) × (o : ℕ) × (the_members h i ≡ Reads (Found ms o)) × (Reads (closed P most room file is h ms S o) ≡ Reads (Wrong n))) ⊎ (the_members h i ≡ Reads (Wrong n)) → plain_rest is h i ≡ Wrong n
      at_members is h i (inl w) = ap (λ (q : Answer (List MemberTree)). and_then q (λ ms o. closed P most room file is h ms S o)) (members_found h i w.0 w.1 w.2).0 ∙ reads_is _ _ w.3
      at_members is h i (inr e) = ap (λ (q : Answer (List MemberTree)). and_then q (λ ms o. closed P most room file is h ms S o)) (members_are i ∙ items.wrong most _ _ _ _ S _ _ _ _ _ _ _ (run.member_items tokens most room parts early h i) most [] i n e)

      at_head : (is : List ImportTree) (i : ℕ) → ((h : ClassHead) × (m : ℕ) × (the_head i ≡ Reads (Found h m)) × (the_rest is h m ≡ Reads (Wrong n))) ⊎ (the_head i ≡ Reads (Wrong n)) → plain_body is i ≡ Wrong n
      at_head is i (inl w) = ap (λ (q : Answer ClassHead). and_then q (λ h n. plain_rest is h n)) (head_found i w.0 w.1 w.2).0 ∙ at_members is w.0 w.1 (then_wrong (the_members w.0 w.1) (λ ms o. Reads (closed P most room file is w.0 ms S o)) n w.3)
      at_head is i (inr e) = ap (λ (q : Answer ClassHead). and_then q (λ h n. plain_rest is h n)) (head_wrong i n e)

      of : ((is : List ImportTree) × (i : ℕ) × (the_imports ≡ Reads (Found is i)) × (the_body is i ≡ Reads (Wrong n))) ⊎ (the_imports ≡ Reads (Wrong n)) → and_then plain_imports (λ is i. plain_body is i) ≡ Wrong n
      of (inl w) = ap (λ (q : Answer (List ImportTree)). and_then q (λ is i. plain_body is i)) (imports_found w.0 w.1 w.2).0 ∙ at_head w.0 w.1 (then_wrong (the_head w.1) (λ h m. the_rest w.0 h m) n w.3)
      of (inr e) = ap (λ (q : Answer (List ImportTree)). and_then q (λ is i. plain_body is i)) (imports_are ∙ items.wrong most _ _ _ _ S _ _ _ _ _ _ _ (run.import_items tokens most room parts early) most [] 0 n e)

  -- ---- a misfit

  pub file_misfit : (x : Misfit) → checked_file P most room file S ≡ Misfits x → FirstMisfit tokens x
  file_misfit x e = of (then_misfit the_imports (λ is i. the_body is i) x (sym checked_is ∙ e))
    where
      at_members : (is : List ImportTree) (i : ℕ) (h : ClassHead) (n : ℕ) → the_imports ≡ Reads (Found is i) → the_head i ≡ Reads (Found h n)
          → ((ms : List MemberTree) × (o : ℕ) × (the_members h n ≡ Reads (Found ms o)) × (Reads (closed P most room file is h ms S o) ≡ Misfits x)) ⊎ (the_members h n ≡ Misfits x) → FirstMisfit tokens x
      at_members is i h n y z (inl w) = absurd (cc)
      at_members is i h n y z (inr e) =
          let v = imports_found is i y in
          let w = head_found i h n z in
          let u = items.misfit most _ _ _ _ S _ _ _ _ _ _ _ (run.member_items tokens most room parts early h n) most [] n x (g.no_members refl refl) tt e in
          elim u.how [
            | inl m ↦ of_member (imports_stand is i v.0) v.1 (parts.head_laws.sound S i h n w.0) w.1 u.stand u.fit m.is_part m.mis
            | inr b ↦ of_mark_of_member (imports_stand is i v.0) v.1 (parts.head_laws.sound S i h n w.0) w.1 u.stand u.fit b
          ]

      at_head : (is : List ImportTree) (i : ℕ) → the_imports ≡ Reads (Found is i) → ((h : ClassHead) × (m : ℕ) × (the_head i ≡ Reads (Found h m)) × (the_rest is h m ≡ Misfits x)) ⊎ (the_head i ≡ Misfits x) → FirstMisfit tokens x
      at_head is i y (inl w) = at_members is i w.0 w.1 y w.2 (then_misfit (the_members w.0 w.1) (λ ms o. Reads (closed P most room file is w.0 ms S o)) x w.3)
      at_head is i y (inr e) = last (imports_found is i y) (part_misfit check_head (early_head P most S i) (r.head P most S i) x e)
        where
          last : (plain_imports ≡ Found is i) × ImportsFit is → ((c : ClassHead) × (m : ℕ) × (r.head P most S i ≡ Found c m) × (check_head c m ≡ Misfits x))
              ⊎ ((k : ℕ) × (r.head P most S i ≡ Wrong k) × (early_head P most S i k ≡ Some x)) → FirstMisfit tokens x
          last v (inl w) = of_head (imports_stand is i v.0) v.1 (parts.head_laws.sound S i w.0 w.1 w.2) (misfit_is (head_misfit (w.0).annotations (w.0).modifiers (w.0).kind) w.0 w.1 x w.3)
          last v (inr w) = of_mark_of_head (imports_stand is i v.0) v.1 (early.head_early i w.0 x w.1 w.2)

      of : ((is : List ImportTree) × (i : ℕ) × (the_imports ≡ Reads (Found is i)) × (the_body is i ≡ Misfits x)) ⊎ (the_imports ≡ Misfits x) → FirstMisfit tokens x
      of (inl w) = at_head w.0 w.1 w.2 (then_misfit (the_head w.1) (λ h m. the_rest w.0 h m) x w.3)
      of (inr e) =
          let u = items.misfit most _ _ _ _ S _ _ _ _ _ _ _ (run.import_items tokens most room parts early) most [] 0 x (g.no_imports refl refl) tt e in
          elim u.how [ inl m ↦ of_import u.stand u.fit m.is_part m.mis | inr b ↦ absurd b ]

  -- ---- a misfit that stands is met

  -- where the imports are read without their checks, they are read with them, or one is a misfit
  imports_or_halt : (is : List ImportTree) (i : ℕ) → plain_imports ≡ Found is i → (the_imports ≡ Reads (Found is i)) ⊎ IsHalted the_imports
  imports_or_halt is i e = of the_imports refl
    where
      of : (q : Checked (List ImportTree)) → the_imports ≡ q → (q ≡ Reads (Found is i)) ⊎ IsHalted q
      of (Reads (Found js j)) same = let w = imports_found js j same in inl (ap Reads (sym w.0 ∙ e))
      of (Reads (Wrong n)) same = let w = imports_are ∙ items.wrong most _ _ _ _ S _ _ _ _ _ _ _ (run.import_items tokens most room parts early) most [] 0 n same in let clash : Wrong n ≡ Found is i = sym w ∙ e in absurd (cc)
      of (Reads (Over n at)) same = inr tt
      of (Misfits x) same = inr tt

  imports_passed : (is : List ImportTree) → Passed most Never plain_imports is 0 → IsHalted the_imports
  imports_passed is x = of the_imports refl
    where
      of : (q : Checked (List ImportTree)) → the_imports ≡ q → IsHalted q
      of (Reads (Found js j)) same = let clash : Over x.place x.node ≡ Found js j = sym x.is ∙ (imports_found js j same).0 in absurd (cc)
      of (Reads (Wrong n)) same =
          absurd (over_no_wrong plain_imports x.place n x.node x.is (imports_are ∙ items.wrong most _ _ _ _ S _ _ _ _ _ _ _ (run.import_items tokens most room parts early) most [] 0 n same))
      of (Reads (Over n at)) same = tt
      of (Misfits y) same = tt

  -- behind the imports
  behind_imports : (is : List ImportTree) (i : ℕ) → Imports P S is 0 i → same_terminal (terminal (S i)) t.Import ≡ false → IsHalted (the_body is i) → IsHalted (checked_file P most room file S)
  behind_imports is i d e h = subst IsHalted (sym checked_is) (of (parts.imports_laws.complete S 0 is i d e))
    where
      next : (the_imports ≡ Reads (Found is i)) ⊎ IsHalted the_imports → IsHalted (then_checked the_imports (λ is i. the_body is i))
      next (inl e) = subst (λ (q : Checked (List ImportTree)). IsHalted (then_checked q (λ is i. the_body is i))) (sym e) h
      next (inr o) = then_halted the_imports (λ is i. the_body is i) o

      of : Outcome most Never plain_imports is 0 i → IsHalted (then_checked the_imports (λ is i. the_body is i))
      of (inl e) = next (imports_or_halt is i e)
      of (inr o) = then_halted the_imports (λ is i. the_body is i) (imports_passed is o)

  -- behind what stands before the members
  behind_head : (is : List ImportTree) (h : ClassHead) (i n : ℕ) → Head P S h i n → ((check_head h n ≡ Reads (Found h n)) → IsHalted (the_rest is h n)) → IsHalted (the_body is i)
  behind_head is h i n d go = of (parts.head_laws.complete S i h n d tt)
    where
      checked : (q : Checked ClassHead) → check_head h n ≡ q → IsHalted (then_checked q (λ h n. the_rest is h n))
      checked (Reads (Found c m)) e =
          let w = misfit_found (head_misfit h.annotations h.modifiers h.kind) h c n m e in
          subst (λ (m : ℕ). IsHalted (the_rest is c m)) (sym w.1) (subst (λ (c : ClassHead). IsHalted (the_rest is c n)) (sym w.0) (go (misfit_fit (head_misfit h.annotations h.modifiers h.kind) h n w.2)))
      checked (Reads (Wrong m)) e = absurd (misfit_wrong (head_misfit h.annotations h.modifiers h.kind) h n m e)
      checked (Reads (Over m at)) e = tt
      checked (Misfits x) e = tt

      of : Outcome most Never (r.head P most S i) h i n → IsHalted (the_body is i)
      of (inl e) = subst (λ (q : Answer ClassHead). IsHalted (then_checked (checked_part check_head (early_head P most S i) q) (λ h n. the_rest is h n))) (sym e) (checked (check_head h n) refl)
      of (inr o) = then_halted (the_head i) (λ h n. the_rest is h n) (passed_halted check_head (early_head P most S i) (r.head P most S i) h i o)

  pub file_met : (x : Misfit) → FirstMisfit tokens x → IsHalted (checked_file P most room file S)
  file_met x (of_import {is} {a} {i} {j} d fit e mis) =
      subst IsHalted (sym checked_is) (then_halted the_imports (λ is i. the_body is i)
      (items.met most _ _ _ _ S _ _ _ _ _ _ _ (run.import_items tokens most room parts early) most [] is a 0 i j x (parts.import_steps S is 0 i d) e mis))
  file_met x (of_head {is} {h} {i} {j} d fit e mis) =
      behind_imports is i d (parts.head_begins S h i j e)
      (behind_head is h i j e (λ same. absurd (not_both (head_misfit h.annotations h.modifiers h.kind) mis (misfit_found (head_misfit h.annotations h.modifiers h.kind) h h j j same).2)))
    where
      not_both : (o : Option Misfit) → o ≡ Some x → o ≡ None → ⊥
      not_both None e f = absurd (cc)
      not_both (Some y) e f = absurd (cc)
  file_met x (of_member {is} {h} {ms} {a} {i} {k = n} {n = o} {j} d fit e fits all all_fit part mis) =
      behind_imports is i d (parts.head_begins S h i n e)
      (behind_head is h i n e (λ same. then_halted (the_members h n) (λ ms o. Reads (closed P most room file is h ms S o))
      (items.met most _ _ _ _ S _ _ _ _ _ _ _ (run.member_items tokens most room parts early h n) most [] ms a n o j x (parts.member_steps S ms n o all) part mis)))
  file_met x (of_mark_of_head {is} {i} d fit mark) =
      behind_imports is i d (early.head_begins i x mark)
      (then_halted (the_head i) (λ h n. the_rest is h n) (part_halted check_head (early_head P most S i) (r.head P most S i)
      (λ h n e. (let w = early.head_whole i n h x mark (parts.head_laws.sound S i h n e) in misfit_met (head_misfit h.annotations h.modifiers h.kind) h n w.0 w.1))
      (λ n e. early.head_met i n x mark e)))
  file_met x (of_mark_of_member {is} {h} {ms} {i} {k = n} {n = o} d fit e fits all all_fit mark) =
      behind_imports is i d (parts.head_begins S h i n e)
      (behind_head is h i n e (λ same. then_halted (the_members h n) (λ ms o. Reads (closed P most room file is h ms S o))
      (items.begun most _ _ _ _ S _ _ _ _ _ _ _ (run.member_items tokens most room parts early h n) most [] ms n o x (parts.member_steps S ms n o all) mark)))

  -- ---- too deep

  -- where checked reading passes a limit, the other passes it, too
  pub file_over : (n : ℕ) (at : Span) → checked_file P most room file S ≡ Reads (Over n at) → plain_file ≡ Over n at
  file_over n at e = file_is ∙ of (then_over the_imports (λ is i. the_body is i) n at (sym checked_is ∙ e))
    where
      at_members : (is : List ImportTree) (h : ClassHead) (i : ℕ) → ((ms : List MemberTree) × (o : ℕ) × (the_members h i ≡ Reads (Found ms o)) × (Reads (closed P most room file is h ms S o) ≡ Reads (Over n at))) ⊎ (the_members h i ≡ Reads (Over n at)) → plain_rest is h i ≡ Over n at
      at_members is h i (inl w) = ap (λ (q : Answer (List MemberTree)). and_then q (λ ms o. closed P most room file is h ms S o)) (members_found h i w.0 w.1 w.2).0 ∙ reads_is _ _ w.3
      at_members is h i (inr e) = ap (λ (q : Answer (List MemberTree)). and_then q (λ ms o. closed P most room file is h ms S o)) (members_are i ∙ items.over_limit most _ _ _ _ S _ _ _ _ _ _ _ (run.member_items tokens most room parts early h i) most [] i n at e)

      at_head : (is : List ImportTree) (i : ℕ) → ((h : ClassHead) × (m : ℕ) × (the_head i ≡ Reads (Found h m)) × (the_rest is h m ≡ Reads (Over n at))) ⊎ (the_head i ≡ Reads (Over n at)) → plain_body is i ≡ Over n at
      at_head is i (inl w) = ap (λ (q : Answer ClassHead). and_then q (λ h n. plain_rest is h n)) (head_found i w.0 w.1 w.2).0 ∙ at_members is w.0 w.1 (then_over (the_members w.0 w.1) (λ ms o. Reads (closed P most room file is w.0 ms S o)) n at w.3)
      at_head is i (inr e) = ap (λ (q : Answer ClassHead). and_then q (λ h n. plain_rest is h n)) (head_over i n at e)

      of : ((is : List ImportTree) × (i : ℕ) × (the_imports ≡ Reads (Found is i)) × (the_body is i ≡ Reads (Over n at))) ⊎ (the_imports ≡ Reads (Over n at)) → and_then plain_imports (λ is i. plain_body is i) ≡ Over n at
      of (inl w) = ap (λ (q : Answer (List ImportTree)). and_then q (λ is i. plain_body is i)) (imports_found w.0 w.1 w.2).0 ∙ at_head w.0 w.1 (then_over (the_head w.1) (λ h m. the_rest w.0 h m) n at w.3)
      of (inr e) = ap (λ (q : Answer (List ImportTree)). and_then q (λ is i. plain_body is i)) (imports_are ∙ items.over_limit most _ _ _ _ S _ _ _ _ _ _ _ (run.import_items tokens most room parts early) most [] 0 n at e)

  -- ---- all fit

  pub file_fits : (a : ClassTree) (j : ℕ) → plain_file ≡ Found a j → Fits a → checked_file P most room file S ≡ Reads (Found a j)
  file_fits a j e fits = of (whole_of a j e)
    where
      of : Whole a j → checked_file P most room file S ≡ Reads (Found a j)
      of w =
          let tree = tree_is w.imports w.head w.members w.at_end a j w.closes in
          let f = subst Fits (sym tree) fits in
          let x : the_imports ≡ Reads (Found w.imports w.at_head) = items.all_fit most _ _ _ _ S _ _ _ _ _ _ _ (run.import_items tokens most room parts early) most [] 0 w.imports w.at_head (sym imports_are ∙ w.imports_read) f.imports in
          let y : the_head w.at_head ≡ Reads (Found w.head w.at_members) = ap (λ (q : Answer ClassHead). checked_part check_head (early_head P most S w.at_head) q) w.head_read ∙ misfit_fit (head_misfit (w.head).annotations (w.head).modifiers (w.head).kind) w.head w.at_members f.head in
          let z : the_members w.head w.at_members ≡ Reads (Found w.members w.at_end) = items.all_fit most _ _ _ _ S _ _ _ _ _ _ _ (run.member_items tokens most room parts early w.head w.at_members) most [] w.at_members w.members w.at_end (sym (members_are w.at_members) ∙ w.members_read) f.members in
          checked_is ∙ (ap (λ (q : Checked (List ImportTree)). then_checked q (λ is i. the_body is i)) x
          ∙ (ap (λ (q : Checked ClassHead). then_checked q (λ h n. the_rest w.imports h n)) y
          ∙ (ap (λ (q : Checked (List MemberTree)). then_checked q (λ ms o. Reads (closed P most room file w.imports w.head ms S o))) z ∙ ap Reads w.closes)))
