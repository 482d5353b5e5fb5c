-- What is reckoned of a statement from its parts does not depend on places, if it does not for each form.
use Rattle.std.proofs.Common.{◌≡◌, List, map, option_map, refl, sym, ap, ◌∙◌, subst}
use Rattle.bj_tree.specs.declared.stmt.StmtTree.{StmtTree, StmtTree-F, roll-StmtTree, map-StmtTree, ind-StmtTree}
use Rattle.bj_tree.specs.declared.stmt.StmtTree.TheVariants as stmt
use Rattle.bj_tree.specs.declared.stmt.StmtTree.TheFolds.{fold-StmtTree, fold-roll-StmtTree}
use Rattle.bj_print.proofs.Measures.{each_known}
use Rattle.bj_print.specs.Same.{nowhere, unplaced_name, unplaced_type, unplaced_expr, unplaced_variable, unplaced_stmt_form, unplaced_stmt}

-- a form without its places
abbrev pub blotted : {A : Type 0} → StmtTree-F A → StmtTree-F A
blotted (StmtTree-F.Block at body end) = StmtTree-F.Block nowhere body nowhere
blotted (StmtTree-F.Empty at) = StmtTree-F.Empty nowhere
blotted (StmtTree-F.Local at is_final holds variables) = StmtTree-F.Local nowhere is_final (unplaced_type holds) (map unplaced_variable variables)
blotted (StmtTree-F.Expression at value) = StmtTree-F.Expression nowhere (unplaced_expr value)
blotted (StmtTree-F.If at test body) = StmtTree-F.If nowhere (unplaced_expr test) body
blotted (StmtTree-F.IfElse at test body other) = StmtTree-F.IfElse nowhere (unplaced_expr test) body other
blotted (StmtTree-F.While at test body) = StmtTree-F.While nowhere (unplaced_expr test) body
blotted (StmtTree-F.Do at body test) = StmtTree-F.Do nowhere body (unplaced_expr test)
blotted (StmtTree-F.For at init test update body) = StmtTree-F.For nowhere init (option_map unplaced_expr test) (map unplaced_expr update) body
blotted (StmtTree-F.ForEach at is_final holds name over body) = StmtTree-F.ForEach nowhere is_final (unplaced_type holds) (unplaced_name name) (unplaced_expr over) body
blotted (StmtTree-F.Switch at value members) = StmtTree-F.Switch nowhere (unplaced_expr value) members
blotted (StmtTree-F.Case at value) = StmtTree-F.Case nowhere (unplaced_expr value)
blotted (StmtTree-F.Default at) = StmtTree-F.Default nowhere
blotted (StmtTree-F.Labelled at label body) = StmtTree-F.Labelled nowhere label body
blotted (StmtTree-F.Break at label) = StmtTree-F.Break nowhere (option_map unplaced_name label)
blotted (StmtTree-F.Continue at label) = StmtTree-F.Continue nowhere (option_map unplaced_name label)
blotted (StmtTree-F.Return at value) = StmtTree-F.Return nowhere (option_map unplaced_expr value)
blotted (StmtTree-F.Throw at value) = StmtTree-F.Throw nowhere (unplaced_expr value)
blotted (StmtTree-F.Synchronized at lock body) = StmtTree-F.Synchronized nowhere (unplaced_expr lock) body
blotted (StmtTree-F.SynchronizedClass at class body) = StmtTree-F.SynchronizedClass nowhere (unplaced_name class) body
blotted (StmtTree-F.Try at body catches) = StmtTree-F.Try nowhere body catches
blotted (StmtTree-F.TryFinally at body catches finally) = StmtTree-F.TryFinally nowhere body catches finally
blotted (StmtTree-F.Catch at is_final types name body) = StmtTree-F.Catch nowhere is_final (map unplaced_type types) (unplaced_name name) body
blotted (StmtTree-F.ConstructorCall at is_super args) = StmtTree-F.ConstructorCall nowhere is_super (map unplaced_expr args)

module _ {A : Type 0} (form : StmtTree-F A → A) (form_steady : (y : StmtTree-F A) → form (blotted y) ≡ form y) where
  abbrev measured : StmtTree → A
  measured = fold-StmtTree A form

  abbrev Steady : StmtTree → Type 0
  Steady x = measured (unplaced_stmt x) ≡ measured x

  abbrev Known : Type 0
  Known = (x : StmtTree) × Steady x

  abbrev tree_of : Known → StmtTree
  tree_of x = x.0

  of_unplaced : (z : StmtTree-F StmtTree) → measured (unplaced_stmt_form z) ≡ form (blotted (map-StmtTree StmtTree A measured z))
  of_unplaced (StmtTree-F.Block at body end) = ap measured (sym (stmt.rolls-Block nowhere body nowhere)) ∙ fold-roll-StmtTree A form (StmtTree-F.Block nowhere body nowhere)
  of_unplaced (StmtTree-F.Empty at) = ap measured (sym (stmt.rolls-Empty nowhere)) ∙ fold-roll-StmtTree A form (StmtTree-F.Empty nowhere)
  of_unplaced (StmtTree-F.Local at is_final holds variables) = ap measured (sym (stmt.rolls-Local nowhere is_final (unplaced_type holds) (map unplaced_variable variables))) ∙ fold-roll-StmtTree A form (StmtTree-F.Local nowhere is_final (unplaced_type holds) (map unplaced_variable variables))
  of_unplaced (StmtTree-F.Expression at value) = ap measured (sym (stmt.rolls-Expression nowhere (unplaced_expr value))) ∙ fold-roll-StmtTree A form (StmtTree-F.Expression nowhere (unplaced_expr value))
  of_unplaced (StmtTree-F.If at test body) = ap measured (sym (stmt.rolls-If nowhere (unplaced_expr test) body)) ∙ fold-roll-StmtTree A form (StmtTree-F.If nowhere (unplaced_expr test) body)
  of_unplaced (StmtTree-F.IfElse at test body other) = ap measured (sym (stmt.rolls-IfElse nowhere (unplaced_expr test) body other)) ∙ fold-roll-StmtTree A form (StmtTree-F.IfElse nowhere (unplaced_expr test) body other)
  of_unplaced (StmtTree-F.While at test body) = ap measured (sym (stmt.rolls-While nowhere (unplaced_expr test) body)) ∙ fold-roll-StmtTree A form (StmtTree-F.While nowhere (unplaced_expr test) body)
  of_unplaced (StmtTree-F.Do at body test) = ap measured (sym (stmt.rolls-Do nowhere body (unplaced_expr test))) ∙ fold-roll-StmtTree A form (StmtTree-F.Do nowhere body (unplaced_expr test))
  of_unplaced (StmtTree-F.For at init test update body) = ap measured (sym (stmt.rolls-For nowhere init (option_map unplaced_expr test) (map unplaced_expr update) body)) ∙ fold-roll-StmtTree A form (StmtTree-F.For nowhere init (option_map unplaced_expr test) (map unplaced_expr update) body)
  of_unplaced (StmtTree-F.ForEach at is_final holds name over body) = ap measured (sym (stmt.rolls-ForEach nowhere is_final (unplaced_type holds) (unplaced_name name) (unplaced_expr over) body)) ∙ fold-roll-StmtTree A form (StmtTree-F.ForEach nowhere is_final (unplaced_type holds) (unplaced_name name) (unplaced_expr over) body)
  of_unplaced (StmtTree-F.Switch at value members) = ap measured (sym (stmt.rolls-Switch nowhere (unplaced_expr value) members)) ∙ fold-roll-StmtTree A form (StmtTree-F.Switch nowhere (unplaced_expr value) members)
  of_unplaced (StmtTree-F.Case at value) = ap measured (sym (stmt.rolls-Case nowhere (unplaced_expr value))) ∙ fold-roll-StmtTree A form (StmtTree-F.Case nowhere (unplaced_expr value))
  of_unplaced (StmtTree-F.Default at) = ap measured (sym (stmt.rolls-Default nowhere)) ∙ fold-roll-StmtTree A form (StmtTree-F.Default nowhere)
  of_unplaced (StmtTree-F.Labelled at label body) = ap measured (sym (stmt.rolls-Labelled nowhere label body)) ∙ fold-roll-StmtTree A form (StmtTree-F.Labelled nowhere label body)
  of_unplaced (StmtTree-F.Break at label) = ap measured (sym (stmt.rolls-Break nowhere (option_map unplaced_name label))) ∙ fold-roll-StmtTree A form (StmtTree-F.Break nowhere (option_map unplaced_name label))
  of_unplaced (StmtTree-F.Continue at label) = ap measured (sym (stmt.rolls-Continue nowhere (option_map unplaced_name label))) ∙ fold-roll-StmtTree A form (StmtTree-F.Continue nowhere (option_map unplaced_name label))
  of_unplaced (StmtTree-F.Return at value) = ap measured (sym (stmt.rolls-Return nowhere (option_map unplaced_expr value))) ∙ fold-roll-StmtTree A form (StmtTree-F.Return nowhere (option_map unplaced_expr value))
  of_unplaced (StmtTree-F.Throw at value) = ap measured (sym (stmt.rolls-Throw nowhere (unplaced_expr value))) ∙ fold-roll-StmtTree A form (StmtTree-F.Throw nowhere (unplaced_expr value))
  of_unplaced (StmtTree-F.Synchronized at lock body) = ap measured (sym (stmt.rolls-Synchronized nowhere (unplaced_expr lock) body)) ∙ fold-roll-StmtTree A form (StmtTree-F.Synchronized nowhere (unplaced_expr lock) body)
  of_unplaced (StmtTree-F.SynchronizedClass at class body) = ap measured (sym (stmt.rolls-SynchronizedClass nowhere (unplaced_name class) body)) ∙ fold-roll-StmtTree A form (StmtTree-F.SynchronizedClass nowhere (unplaced_name class) body)
  of_unplaced (StmtTree-F.Try at body catches) = ap measured (sym (stmt.rolls-Try nowhere body catches)) ∙ fold-roll-StmtTree A form (StmtTree-F.Try nowhere body catches)
  of_unplaced (StmtTree-F.TryFinally at body catches finally) = ap measured (sym (stmt.rolls-TryFinally nowhere body catches finally)) ∙ fold-roll-StmtTree A form (StmtTree-F.TryFinally nowhere body catches finally)
  of_unplaced (StmtTree-F.Catch at is_final types name body) = ap measured (sym (stmt.rolls-Catch nowhere is_final (map unplaced_type types) (unplaced_name name) body)) ∙ fold-roll-StmtTree A form (StmtTree-F.Catch nowhere is_final (map unplaced_type types) (unplaced_name name) body)
  of_unplaced (StmtTree-F.ConstructorCall at is_super args) = ap measured (sym (stmt.rolls-ConstructorCall nowhere is_super (map unplaced_expr args))) ∙ fold-roll-StmtTree A form (StmtTree-F.ConstructorCall nowhere is_super (map unplaced_expr args))

  of_parts : (y : StmtTree-F Known) → map-StmtTree StmtTree A measured (map-StmtTree StmtTree StmtTree unplaced_stmt (map-StmtTree Known StmtTree tree_of y)) ≡ map-StmtTree StmtTree A measured (map-StmtTree Known StmtTree tree_of y)
  of_parts (StmtTree-F.Block at body end) = ap (λ (z : List A). StmtTree-F.Block at z end) (each_known measured unplaced_stmt body)
  of_parts (StmtTree-F.Empty at) = refl
  of_parts (StmtTree-F.Local at is_final holds variables) = refl
  of_parts (StmtTree-F.Expression at value) = refl
  of_parts (StmtTree-F.If at test body) = ap (λ (z : A). StmtTree-F.If at test z) body.1
  of_parts (StmtTree-F.IfElse at test body other) = ap (λ (z : A). StmtTree-F.IfElse at test z (measured (unplaced_stmt other.0))) body.1
      ∙ ap (λ (z : A). StmtTree-F.IfElse at test (measured body.0) z) other.1
  of_parts (StmtTree-F.While at test body) = ap (λ (z : A). StmtTree-F.While at test z) body.1
  of_parts (StmtTree-F.Do at body test) = ap (λ (z : A). StmtTree-F.Do at z test) body.1
  of_parts (StmtTree-F.For at init test update body) = ap (λ (z : List A). StmtTree-F.For at z test update (measured (unplaced_stmt body.0))) (each_known measured unplaced_stmt init)
      ∙ ap (λ (z : A). StmtTree-F.For at (map measured (map tree_of init)) test update z) body.1
  of_parts (StmtTree-F.ForEach at is_final holds name over body) = ap (λ (z : A). StmtTree-F.ForEach at is_final holds name over z) body.1
  of_parts (StmtTree-F.Switch at value members) = ap (λ (z : List A). StmtTree-F.Switch at value z) (each_known measured unplaced_stmt members)
  of_parts (StmtTree-F.Case at value) = refl
  of_parts (StmtTree-F.Default at) = refl
  of_parts (StmtTree-F.Labelled at label body) = ap (λ (z : A). StmtTree-F.Labelled at label z) body.1
  of_parts (StmtTree-F.Break at label) = refl
  of_parts (StmtTree-F.Continue at label) = refl
  of_parts (StmtTree-F.Return at value) = refl
  of_parts (StmtTree-F.Throw at value) = refl
  of_parts (StmtTree-F.Synchronized at lock body) = ap (λ (z : A). StmtTree-F.Synchronized at lock z) body.1
  of_parts (StmtTree-F.SynchronizedClass at class body) = ap (λ (z : A). StmtTree-F.SynchronizedClass at class z) body.1
  of_parts (StmtTree-F.Try at body catches) = ap (λ (z : A). StmtTree-F.Try at z (map measured (map unplaced_stmt (map tree_of catches)))) body.1
      ∙ ap (λ (z : List A). StmtTree-F.Try at (measured body.0) z) (each_known measured unplaced_stmt catches)
  of_parts (StmtTree-F.TryFinally at body catches finally) = ap (λ (z : A). StmtTree-F.TryFinally at z (map measured (map unplaced_stmt (map tree_of catches))) (measured (unplaced_stmt finally.0))) body.1
      ∙ ap (λ (z : List A). StmtTree-F.TryFinally at (measured body.0) z (measured (unplaced_stmt finally.0))) (each_known measured unplaced_stmt catches)
      ∙ ap (λ (z : A). StmtTree-F.TryFinally at (measured body.0) (map measured (map tree_of catches)) z) finally.1
  of_parts (StmtTree-F.Catch at is_final types name body) = ap (λ (z : A). StmtTree-F.Catch at is_final types name z) body.1
  of_parts (StmtTree-F.ConstructorCall at is_super args) = refl

  pub unplaced_steady : (x : StmtTree) → Steady x
  unfolding unplaced_stmt
  unplaced_steady = ind-StmtTree Steady (λ x y is. let z = map-StmtTree Known StmtTree tree_of y in subst (λ (z : StmtTree-F StmtTree). Steady (roll-StmtTree z)) is
      (ap measured (fold-roll-StmtTree StmtTree unplaced_stmt_form z) ∙ of_unplaced (map-StmtTree StmtTree StmtTree unplaced_stmt z)
      ∙ form_steady (map-StmtTree StmtTree A measured (map-StmtTree StmtTree StmtTree unplaced_stmt z)) ∙ ap form (of_parts y) ∙ sym (fold-roll-StmtTree A form z)))
