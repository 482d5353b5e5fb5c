-- The reader of a text against its grammar.
use Rattle.std.proofs.Common.{◌≡◌, ℕ, List, [], Option, Some, None, refl, sym, ap, ◌∙◌, subst, inl, inr}
use Rattle.bj_core.specs.declared.tree.Expr.{Expr}
use Rattle.bj_sum.specs.declared.sum.Found.{Found}
use Rattle.bj_sum.specs.declared.token.Sort.{Sort}
use Rattle.bj_sum.specs.declared.token.Sort.TheVariants as sort
use Rattle.bj_sum.specs.declared.token.Token.{Token}
use Rattle.bj_sum.specs.Grammar.{Text, Additive, Multiplicative, Unary, Primary, multiplicative, plus, minus, unary, times, primary, negative, literal, parenthesized}
use Rattle.bj_sum.specs.Lexical.{Tokens}
use Rattle.bj_sum.specs.Lexing.{tokens_of}
use Rattle.bj_sum.specs.Reading.{text_of, operator, level_of, ended, whole_text, read_tokens, sum_of}
use Rattle.bj_sum.specs.Sums.{ReadsAs, IsSum, constant, negation, operation}
use Rattle.bj_sum.proofs.Sound.{additive_sound}
use Rattle.bj_sum.proofs.Complete.{additive_complete}
use Rattle.bj_sum.proofs.LexSound.{lex_sound, lex_complete}

ended_is : (a e : Expr) (x : Sort) → ended a x ≡ Some e → (x ≡ sort.End) × (a ≡ e)
ended_is a e sort.End h = (refl, cc)
ended_is a e (sort.Literal v) h = absurd (cc)
ended_is a e sort.Open h = absurd (cc)
ended_is a e sort.Close h = absurd (cc)
ended_is a e sort.Plus h = absurd (cc)
ended_is a e sort.Minus h = absurd (cc)
ended_is a e sort.Times h = absurd (cc)

pub sum_sound : (text : List ℕ) (e : Expr) → sum_of text ≡ Some e → ReadsAs text e
sum_sound text e h = of (tokens_of text) refl h
  where
    of : (r : Option (List Token)) → tokens_of text ≡ r → read_tokens r ≡ Some e → ReadsAs text e
    of None is h = absurd (cc)
    of (Some tokens) is h = whole (level_of (text_of tokens) 200 2 0) refl h
      where
        whole : (f : Option Found) → level_of (text_of tokens) 200 2 0 ≡ f → whole_text f (text_of tokens) ≡ Some e → ReadsAs text e
        whole None found h = absurd (cc)
        whole (Some f) found h =
            let end = ended_is f.tree e (text_of tokens f.after).sort h in
            let d = additive_sound (text_of tokens) 200 0 f found in
            let l = lex_sound text [] None 1 tokens is in
            record {
              tokens = tokens;
              lexed = subst (λ (t : List Token). Tokens 1 text t) (sym l.all) l.stands;
              height = f.height;
              after = f.after;
              derived = subst (λ (a : Expr). Additive (text_of tokens) a f.height 0 f.after) end.1 d.derived;
              ended = end.0;
              low = d.low;
            }

pub sum_complete : (text : List ℕ) (e : Expr) → ReadsAs text e → sum_of text ≡ Some e
sum_complete text e r =
    let s = text_of r.tokens in
    ap read_tokens (lex_complete r.lexed [])
    ∙ (ap (λ (f : Option Found). whole_text f s) (additive_complete s r.derived 200 r.low (ap (operator 0) r.ended) (ap (operator 1) r.ended))
    ∙ ap (ended e) r.ended)

module _ (s : Text) where
  mutual
    additive_sum : {a : Expr} {h i j : ℕ} → Additive s a h i j → IsSum a
    additive_sum (multiplicative d) = multiplicative_sum d
    additive_sum (plus d is e tree high) = operation (additive_sum d) (multiplicative_sum e) (inl refl) tree
    additive_sum (minus d is e tree high) = operation (additive_sum d) (multiplicative_sum e) (inr (inl refl)) tree

    multiplicative_sum : {a : Expr} {h i j : ℕ} → Multiplicative s a h i j → IsSum a
    multiplicative_sum (unary d) = unary_sum d
    multiplicative_sum (times d is e tree high) = operation (multiplicative_sum d) (unary_sum e) (inr (inr refl)) tree

    unary_sum : {a : Expr} {h i j : ℕ} → Unary s a h i j → IsSum a
    unary_sum (primary d) = primary_sum d
    unary_sum (negative is d tree high) = negation (unary_sum d) tree

    primary_sum : {a : Expr} {h i j : ℕ} → Primary s a h i j → IsSum a
    primary_sum (literal is tree high at) = constant tree
    primary_sum (parenthesized is d closes high at) = additive_sum d

pub sum_is : (text : List ℕ) (e : Expr) → sum_of text ≡ Some e → IsSum e
sum_is text e h = let r = sum_sound text e h in additive_sum (text_of r.tokens) r.derived
