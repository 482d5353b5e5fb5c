-- How a token with a given terminal is spelled.
use Rattle.std.proofs.Common.{◌≡◌, ◌≢◌, ℕ, Bool, true, false, if◌then◌else◌, List, [], ◌∷◌, refl, sym, ap, ◌∙◌, subst}
use Rattle.std.proofs.lemmas.Slice.Eq.{bytes_eq-Decides}
use Rattle.std.specs.Str.{bytes_eq}
use Rattle.bj_token.specs.declared.token.TokenKind.{TokenKind}
use Rattle.bj_token.specs.declared.token.TokenKind.TheVariants as kinds
use Rattle.bj_token.specs.declared.token.Token.{Token}
use Rattle.bj_grammar.specs.declared.terminal.Terminal.{Terminal}
use Rattle.bj_grammar.specs.declared.terminal.Terminal.TheVariants as t
use Rattle.bj_grammar.specs.Terminal.{terminal, terminal_by, spelled, spelling, keywords, signs, keyword_spelling, sign_spelling}
use Rattle.bj_grammar.proofs.Terminals.{kind_for}
use Rattle.bj_print.proofs.Holds.{spelling_of}

-- each terminal of a list stands for tokens of the kind
abbrev AllOf : TokenKind → List Terminal → Type 0
AllOf kind [] = Unit {0}
AllOf kind (k ∷ ks) = (kind_for k ≡ kind) × AllOf kind ks

all_keywords : AllOf kinds.Keyword keywords
all_keywords = (refl, (refl, (refl, (refl, (refl, (refl, (refl, (refl, (refl, (refl, (refl, (refl, (refl, (refl, (refl, (refl, (refl, (refl, (refl, (refl, (refl, (refl, (refl, (refl, (refl, (refl, (refl, (refl, (refl, (refl, (refl, (refl, (refl, (refl, (refl, (refl, (refl, (refl, (refl, (refl, (refl, tt)))))))))))))))))))))))))))))))))))))))))

all_signs : AllOf kinds.Sign signs
all_signs = (refl, (refl, (refl, (refl, (refl, (refl, (refl, (refl, (refl, (refl, (refl, (refl, (refl, (refl, (refl, (refl, (refl, (refl, (refl, (refl, (refl, (refl, (refl, (refl, (refl, (refl, (refl, (refl, (refl, (refl, (refl, (refl, (refl, (refl, (refl, (refl, (refl, (refl, (refl, (refl, (refl, (refl, (refl, (refl, (refl, (refl, (refl, tt)))))))))))))))))))))))))))))))))))))))))))))))

-- ---- the terminal of a keyword or a sign is the one that is spelled so

kind_of : (as_sign : Bool) (kind : TokenKind) (k : Terminal) (ks : List Terminal) (text : List ℕ) → kind_for k ≡ kind → (spelled as_sign ks text ≢ t.Other → kind ≡ kind_for (spelled as_sign ks text))
    → (b : Bool) → (if b then k else spelled as_sign ks text) ≢ t.Other → kind ≡ kind_for (if b then k else spelled as_sign ks text)
kind_of as_sign kind k ks text is rest true some = sym is
kind_of as_sign kind k ks text is rest false some = rest some

spelled_kind : (as_sign : Bool) (kind : TokenKind) (ks : List Terminal) (text : List ℕ) → AllOf kind ks → spelled as_sign ks text ≢ t.Other → kind ≡ kind_for (spelled as_sign ks text)
spelled_kind as_sign kind [] text all some = absurd (some refl)
spelled_kind as_sign kind (k ∷ ks) text all some = kind_of as_sign kind k ks text all.0 (spelled_kind as_sign kind ks text all.1) (bytes_eq text (spelling as_sign k)) some

text_of_spelled : (as_sign : Bool) (k : Terminal) (ks : List Terminal) (text : List ℕ) → (spelled as_sign ks text ≢ t.Other → text ≡ spelling as_sign (spelled as_sign ks text))
    → (b : Bool) → (b ≡ true → text ≡ spelling as_sign k) → (if b then k else spelled as_sign ks text) ≢ t.Other → text ≡ spelling as_sign (if b then k else spelled as_sign ks text)
text_of_spelled as_sign k ks text rest true same some = same refl
text_of_spelled as_sign k ks text rest false same some = rest some

spelled_text : (as_sign : Bool) (ks : List Terminal) (text : List ℕ) → spelled as_sign ks text ≢ t.Other → text ≡ spelling as_sign (spelled as_sign ks text)
spelled_text as_sign [] text some = absurd (some refl)
spelled_text as_sign (k ∷ ks) text some =
    text_of_spelled as_sign k ks text (spelled_text as_sign ks text) (bytes_eq text (spelling as_sign k)) ((bytes_eq-Decides text (spelling as_sign k)).0) some

-- ---- the kind of a token that has a terminal

int_kind : (b : Bool) → kinds.Number ≡ kind_for (if b then t.LeastNumber else t.Number)
int_kind true = refl
int_kind false = refl

long_kind : (b : Bool) → kinds.LongNumber ≡ kind_for (if b then t.LeastLong else t.LongNumber)
long_kind true = refl
long_kind false = refl

pub kind_is : (kind : TokenKind) (text : List ℕ) → terminal_by kind text ≢ t.Other → kind ≡ kind_for (terminal_by kind text)
kind_is kinds.Word text some = refl
kind_is kinds.Keyword text some = spelled_kind false kinds.Keyword keywords text all_keywords some
kind_is kinds.Number text some = int_kind _
kind_is kinds.LongNumber text some = long_kind _
kind_is kinds.CharText text some = refl
kind_is kinds.StringText text some = refl
kind_is kinds.Sign text some = spelled_kind true kinds.Sign signs text all_signs some

-- ---- how a keyword and a sign are spelled

-- the units of a keyword or a sign; those of other tokens are free
abbrev pub IsFixed : TokenKind → List ℕ → Terminal → Type 0
IsFixed kinds.Keyword text k = text ≡ keyword_spelling k
IsFixed kinds.Sign text k = text ≡ sign_spelling k
IsFixed _ text k = Unit {0}

text_is_fixed : (kind : TokenKind) (text : List ℕ) → terminal_by kind text ≢ t.Other → IsFixed kind text (terminal_by kind text)
text_is_fixed kinds.Word text some = tt
text_is_fixed kinds.Keyword text some = spelled_text false keywords text some
text_is_fixed kinds.Number text some = tt
text_is_fixed kinds.LongNumber text some = tt
text_is_fixed kinds.CharText text some = tt
text_is_fixed kinds.StringText text some = tt
text_is_fixed kinds.Sign text some = spelled_text true signs text some

-- a token of a terminal is of its kind, and spelled as it is
pub kind_has : (x : Token) (k : Terminal) → terminal x ≡ k → k ≢ t.Other → x.kind ≡ kind_for k
unfolding terminal
kind_has x k is some = kind_is x.kind x.text (λ e. some (sym is ∙ e)) ∙ ap kind_for is

pub sign_has : (x : Token) (k : Terminal) → terminal x ≡ k → kind_for k ≡ kinds.Sign → k ≢ t.Other → spelling_of x ≡ (kinds.Sign, sign_spelling k)
unfolding terminal
sign_has x k is of_sign some =
    let kind = kind_has x k is some ∙ of_sign in
    let fixed = text_is_fixed x.kind x.text (λ e. some (sym is ∙ e)) in
    let text : x.text ≡ sign_spelling k = subst (λ (w : TokenKind). IsFixed w x.text (terminal x)) kind fixed ∙ ap sign_spelling is in
    ap (λ (w : TokenKind). (w, x.text)) kind ∙ ap (λ (w : List ℕ). (kinds.Sign, w)) text

pub keyword_has : (x : Token) (k : Terminal) → terminal x ≡ k → kind_for k ≡ kinds.Keyword → k ≢ t.Other → spelling_of x ≡ (kinds.Keyword, keyword_spelling k)
unfolding terminal
keyword_has x k is of_keyword some =
    let kind = kind_has x k is some ∙ of_keyword in
    let fixed = text_is_fixed x.kind x.text (λ e. some (sym is ∙ e)) in
    let text : x.text ≡ keyword_spelling k = subst (λ (w : TokenKind). IsFixed w x.text (terminal x)) kind fixed ∙ ap keyword_spelling is in
    ap (λ (w : TokenKind). (w, x.text)) kind ∙ ap (λ (w : List ℕ). (kinds.Keyword, w)) text

-- a token of the kind, with the units that it has
pub other_has : (x : Token) (k : Terminal) (kind : TokenKind) → terminal x ≡ k → kind_for k ≡ kind → k ≢ t.Other → spelling_of x ≡ (kind, x.text)
other_has x k kind is of_kind some = ap (λ (w : TokenKind). (w, x.text)) (kind_has x k is some ∙ of_kind)
