-- The class of a token is what the grammar's rules say of it.
use Rattle.std.proofs.Common.{◌≡◌, ◌≢◌, ℕ, Bool, true, false, cond, ◌||◌, ◌&&◌, ◌==◌, ◌⊎◌, List, [], ◌∷◌, map, refl, sym, ap, ◌∙◌, inl, inr}
use Rattle.std.specs.Prelude.{codes, nat_eq}
use Rattle.std.specs.Char.{to_ascii_uppercase}
use Rattle.std.specs.Cmp.Lexicographic.{pointwise}
use Rattle.std.proofs.lemmas.Bool.{and_parts, or_cases, eqb-true}
use Rattle.query_text.specs.declared.kind.TokenKind.{TokenKind}
use Rattle.query_text.specs.declared.kind.TokenKind.TheVariants as kinds
use Rattle.query_text.specs.declared.class.Class.{Class}
use Rattle.query_text.specs.declared.class.Class.TheVariants as classes
use Rattle.query_text.specs.declared.class.Declaration.{Declaration as Declared}
use Rattle.query_text.specs.Tokens.{Token, IsToken, IsOf, IsSymbolToken}
use Rattle.query_text.specs.Grammar.{IsWord, IsSymbol, IsVar, IsIrirefToken, IsPrefixedNameToken, IsLabelToken, IsStringToken, IsLangtagToken, IsIntegerToken, IsDecimalToken}
use Rattle.query_text.specs.Parsing.{class_by, word_class, symbol_class, lone_class, name_class, is_keyword, is_a, prefix_at, local_at, is_declared, is_empty}

abbrev pub class : List Declared → Token → Class
class declarations token = class_by declarations token.kind token.characters

-- ---- the class that a rule gives

by_kind : (d : List Declared) (token : Token) (kind : TokenKind) → token.kind ≡ kind → class d token ≡ class_by d kind token.characters
by_kind d token kind e = ap (λ (k : TokenKind). class_by d k token.characters) e

pub class_of_var : (d : List Declared) (token : Token) (name : List ℕ) → IsVar token name → class d token ≡ classes.Var
class_of_var d token name h = by_kind d token kinds.Var h.kind

pub class_of_iriref : (d : List Declared) (token : Token) (iri : List ℕ) → IsIrirefToken token iri → class d token ≡ classes.Iriref
class_of_iriref d token iri h = by_kind d token kinds.Iriref h.kind

pub class_of_label : (d : List Declared) (token : Token) (label : List ℕ) → IsLabelToken token label → class d token ≡ classes.Label
class_of_label d token label h = by_kind d token kinds.Label h.kind

pub class_of_string : (d : List Declared) (token : Token) (form : List ℕ) → IsStringToken token form → class d token ≡ classes.Str
class_of_string d token form h = by_kind d token kinds.Str h.kind

pub class_of_langtag : (d : List Declared) (token : Token) (tag : List ℕ) → IsLangtagToken token tag → class d token ≡ classes.Langtag
class_of_langtag d token tag h = by_kind d token kinds.Langtag h.kind

pub class_of_integer : (d : List Declared) (token : Token) → token.kind ≡ kinds.Integer → class d token ≡ classes.Integer
class_of_integer d token h = by_kind d token kinds.Integer h

pub class_of_decimal : (d : List Declared) (token : Token) → token.kind ≡ kinds.Decimal → class d token ≡ classes.Decimal
class_of_decimal d token h = by_kind d token kinds.Decimal h

pub class_of_name : (d : List Declared) (token : Token) («prefix» local : List ℕ) → IsPrefixedNameToken token «prefix» local
    → class d token ≡ name_class d token.characters
class_of_name d token «prefix» local h = by_kind d token kinds.PrefixName h.kind

-- ---- symbols

pub class_of_symbol : (d : List Declared) (token : Token) (symbol : List ℕ) → IsSymbol symbol token → class d token ≡ symbol_class symbol
class_of_symbol d token symbol h = by_kind d token kinds.Symbol h.kind ∙ ap symbol_class h.is

pub star : symbol_class (codes "*") ≡ classes.Star
unfolding lone_class
star = refl

pub opening : symbol_class (codes "{") ≡ classes.Opening
unfolding lone_class
opening = refl

pub closing : symbol_class (codes "}") ≡ classes.Closing
unfolding lone_class
closing = refl

pub dot : symbol_class (codes ".") ≡ classes.Dot
unfolding lone_class
dot = refl

pub comma : symbol_class (codes ",") ≡ classes.Comma
unfolding lone_class
comma = refl

pub semicolon : symbol_class (codes ";") ≡ classes.Semicolon
unfolding lone_class
semicolon = refl

pub carets : symbol_class (codes "^^") ≡ classes.Carets
carets = refl

-- ---- words

-- the class of a word that isn't a, in upper case
abbrev upper_class : List ℕ → Class
upper_class upper =
    cond (pointwise nat_eq upper (codes "PREFIX")) classes.PrefixWord (
    cond (pointwise nat_eq upper (codes "SELECT")) classes.SelectWord (
    cond (pointwise nat_eq upper (codes "WHERE")) classes.WhereWord (
    cond (pointwise nat_eq upper (codes "TRUE") || pointwise nat_eq upper (codes "FALSE")) classes.Boolean classes.Other)))

upper_of_a : (word : List ℕ) → is_a word ≡ true → map to_ascii_uppercase word ≡ codes "A"
unfolding is_a
upper_of_a [] h = absurd cc
upper_of_a (c ∷ []) h = by (c == 97) refl h
  where
    by : (same : Bool) → (c == 97) ≡ same → (same && true) ≡ true → map to_ascii_uppercase (c ∷ []) ≡ codes "A"
    by true e k = ap (λ (x : ℕ). to_ascii_uppercase x ∷ []) (eqb-true c 97 e)
    by false e k = absurd cc
upper_of_a (c ∷ d ∷ cs) h = absurd (by (c == 97) h)
  where
    by : (same : Bool) → (same && false) ≡ true → ⊥
    by true k = cc
    by false k = cc

keyword_class : (word keyword : List ℕ) → map to_ascii_uppercase word ≡ keyword → keyword ≢ codes "A" → word_class word ≡ upper_class keyword
unfolding word_class
keyword_class word keyword h other = by (is_a word) refl
  where
    by : (a : Bool) → is_a word ≡ a → cond a classes.A (upper_class (map to_ascii_uppercase word)) ≡ upper_class keyword
    by true e = absurd (other (sym h ∙ upper_of_a word e))
    by false e = ap upper_class h

class_of_word : (d : List Declared) (token : Token) (keyword : List ℕ) → IsWord keyword token → keyword ≢ codes "A" → class d token ≡ upper_class keyword
class_of_word d token keyword h other = by_kind d token kinds.Word h.kind ∙ keyword_class token.characters keyword h.letters other

pub class_of_prefix : (d : List Declared) (token : Token) → IsWord (codes "PREFIX") token → class d token ≡ classes.PrefixWord
class_of_prefix d token h = class_of_word d token (codes "PREFIX") h (λ e. absurd cc)

pub class_of_select : (d : List Declared) (token : Token) → IsWord (codes "SELECT") token → class d token ≡ classes.SelectWord
class_of_select d token h = class_of_word d token (codes "SELECT") h (λ e. absurd cc)

pub class_of_where : (d : List Declared) (token : Token) → IsWord (codes "WHERE") token → class d token ≡ classes.WhereWord
class_of_where d token h = class_of_word d token (codes "WHERE") h (λ e. absurd cc)

pub class_of_boolean : (d : List Declared) (token : Token) → IsWord (codes "TRUE") token ⊎ IsWord (codes "FALSE") token → class d token ≡ classes.Boolean
class_of_boolean d token (inl h) = class_of_word d token (codes "TRUE") h (λ e. absurd cc)
class_of_boolean d token (inr h) = class_of_word d token (codes "FALSE") h (λ e. absurd cc)

word_a : word_class (codes "a") ≡ classes.A
unfolding word_class is_a
word_a = refl

pub class_of_a : (d : List Declared) (token : Token) → token.kind ≡ kinds.Word → token.characters ≡ codes "a" → class d token ≡ classes.A
class_of_a d token k e = by_kind d token kinds.Word k ∙ ap word_class e ∙ word_a

-- ---- the rule that a class comes from

is_text : (xs ys : List ℕ) → pointwise nat_eq xs ys ≡ true → xs ≡ ys
is_text [] [] h = refl
is_text [] (y ∷ ys) h = absurd cc
is_text (x ∷ xs) [] h = absurd cc
is_text (x ∷ xs) (y ∷ ys) h =
    let parts = and_parts (x == y) (pointwise nat_eq xs ys) h in
    ap (λ (z : ℕ). z ∷ xs) (eqb-true x y parts.0) ∙ ap (λ (z : List ℕ). y ∷ z) (is_text xs ys parts.1)

-- what the class of a word says of it
abbrev pub IsOfWord : Class → List ℕ → Type 0
IsOfWord classes.A word = word ≡ codes "a"
IsOfWord classes.PrefixWord word = map to_ascii_uppercase word ≡ codes "PREFIX"
IsOfWord classes.SelectWord word = map to_ascii_uppercase word ≡ codes "SELECT"
IsOfWord classes.WhereWord word = map to_ascii_uppercase word ≡ codes "WHERE"
IsOfWord classes.Boolean word = (map to_ascii_uppercase word ≡ codes "TRUE") ⊎ (map to_ascii_uppercase word ≡ codes "FALSE")
IsOfWord classes.Other word = Unit {0}
IsOfWord _ word = ⊥

word_says : (word : List ℕ) → IsOfWord (word_class word) word
unfolding word_class is_a
word_says word =
    by (is_a word) (is_keyword word (codes "PREFIX")) (is_keyword word (codes "SELECT")) (is_keyword word (codes "WHERE"))
    (is_keyword word (codes "TRUE") || is_keyword word (codes "FALSE")) (is_text word (codes "a")) (is_text (map to_ascii_uppercase word) (codes "PREFIX"))
    (is_text (map to_ascii_uppercase word) (codes "SELECT")) (is_text (map to_ascii_uppercase word) (codes "WHERE"))
    (λ h. either (or_cases (is_keyword word (codes "TRUE")) (is_keyword word (codes "FALSE")) h))
  where
    either : (is_keyword word (codes "TRUE") ≡ true) ⊎ (is_keyword word (codes "FALSE") ≡ true) → IsOfWord classes.Boolean word
    either (inl h) = inl (is_text (map to_ascii_uppercase word) (codes "TRUE") h)
    either (inr h) = inr (is_text (map to_ascii_uppercase word) (codes "FALSE") h)

    by : (a p s w b : Bool) → (a ≡ true → word ≡ codes "a") → (p ≡ true → map to_ascii_uppercase word ≡ codes "PREFIX")
        → (s ≡ true → map to_ascii_uppercase word ≡ codes "SELECT") → (w ≡ true → map to_ascii_uppercase word ≡ codes "WHERE")
        → (b ≡ true → IsOfWord classes.Boolean word)
        → IsOfWord (cond a classes.A (cond p classes.PrefixWord (cond s classes.SelectWord (cond w classes.WhereWord (cond b classes.Boolean classes.Other))))) word
    by true p s w b ha hp hs hw hb = ha refl
    by false true s w b ha hp hs hw hb = hp refl
    by false false true w b ha hp hs hw hb = hs refl
    by false false false true b ha hp hs hw hb = hw refl
    by false false false false true ha hp hs hw hb = hb refl
    by false false false false false ha hp hs hw hb = tt

-- what the class of a symbol says of it
abbrev pub IsOfSymbol : Class → List ℕ → Type 0
IsOfSymbol classes.Star symbol = symbol ≡ codes "*"
IsOfSymbol classes.Opening symbol = symbol ≡ codes "{"
IsOfSymbol classes.Closing symbol = symbol ≡ codes "}"
IsOfSymbol classes.Dot symbol = symbol ≡ codes "."
IsOfSymbol classes.Comma symbol = symbol ≡ codes ","
IsOfSymbol classes.Semicolon symbol = symbol ≡ codes ";"
IsOfSymbol classes.Carets symbol = symbol ≡ codes "^^"
IsOfSymbol classes.Other symbol = Unit {0}
IsOfSymbol _ symbol = ⊥

lone_says : (c : ℕ) → IsOfSymbol (lone_class c) (c ∷ [])
unfolding lone_class
lone_says c =
    by (c == 42) (c == 123) (c == 125) (c == 46) (c == 44) (c == 59) (is 42) (is 123) (is 125) (is 46) (is 44) (is 59)
  where
    is : (n : ℕ) → (c == n) ≡ true → c ∷ [] ≡ n ∷ []
    is n h = ap (λ (x : ℕ). x ∷ []) (eqb-true c n h)

    by : (s o e d m i : Bool) → (s ≡ true → c ∷ [] ≡ codes "*") → (o ≡ true → c ∷ [] ≡ codes "{") → (e ≡ true → c ∷ [] ≡ codes "}")
        → (d ≡ true → c ∷ [] ≡ codes ".") → (m ≡ true → c ∷ [] ≡ codes ",") → (i ≡ true → c ∷ [] ≡ codes ";")
        → IsOfSymbol (cond s classes.Star (cond o classes.Opening (cond e classes.Closing (cond d classes.Dot (cond m classes.Comma (cond i classes.Semicolon classes.Other)))))) (c ∷ [])
    by true o e d m i hs ho he hd hm hi = hs refl
    by false true e d m i hs ho he hd hm hi = ho refl
    by false false true d m i hs ho he hd hm hi = he refl
    by false false false true m i hs ho he hd hm hi = hd refl
    by false false false false true i hs ho he hd hm hi = hm refl
    by false false false false false true hs ho he hd hm hi = hi refl
    by false false false false false false hs ho he hd hm hi = tt

symbol_says : (symbol : List ℕ) → IsSymbolToken symbol → IsOfSymbol (symbol_class symbol) symbol
symbol_says [] h = tt
symbol_says (c ∷ []) h = lone_says c
symbol_says (c ∷ d ∷ cs) (inl (x, e, known)) = absurd cc
symbol_says (c ∷ d ∷ cs) (inr e) = e

-- what the class of a token says of it
abbrev pub Says : List Declared → Class → Token → Type 0
Says d classes.PrefixWord token = IsWord (codes "PREFIX") token
Says d classes.SelectWord token = IsWord (codes "SELECT") token
Says d classes.WhereWord token = IsWord (codes "WHERE") token
Says d classes.A token = (token.kind ≡ kinds.Word) × (token.characters ≡ codes "a")
Says d classes.Boolean token = IsWord (codes "TRUE") token ⊎ IsWord (codes "FALSE") token
Says d classes.Var token = (name : List ℕ) × IsVar token name
Says d classes.Iriref token = (iri : List ℕ) × IsIrirefToken token iri
Says d (classes.PrefixName bare declared) token =
    («prefix» local : List ℕ) × IsPrefixedNameToken token «prefix» local × (bare ≡ is_empty (local_at token.characters))
    × (declared ≡ is_declared d (prefix_at token.characters))
Says d classes.Label token = (label : List ℕ) × IsLabelToken token label
Says d classes.Integer token = IsIntegerToken token
Says d classes.Decimal token = IsDecimalToken token
Says d classes.Str token = (form : List ℕ) × IsStringToken token form
Says d classes.Langtag token = (tag : List ℕ) × IsLangtagToken token tag
Says d classes.Star token = IsSymbol (codes "*") token
Says d classes.Opening token = IsSymbol (codes "{") token
Says d classes.Closing token = IsSymbol (codes "}") token
Says d classes.Dot token = IsSymbol (codes ".") token
Says d classes.Comma token = IsSymbol (codes ",") token
Says d classes.Semicolon token = IsSymbol (codes ";") token
Says d classes.Carets token = IsSymbol (codes "^^") token
Says d classes.Other token = Unit {0}

word_token : (d : List Declared) (c : Class) (characters : List ℕ) → IsOfWord c characters → Says d c (record { kind = kinds.Word; characters = characters })
word_token d classes.A w h = (refl, h)
word_token d classes.PrefixWord w h = record { kind = refl; letters = h }
word_token d classes.SelectWord w h = record { kind = refl; letters = h }
word_token d classes.WhereWord w h = record { kind = refl; letters = h }
word_token d classes.Boolean w (inl h) = inl (record { kind = refl; letters = h })
word_token d classes.Boolean w (inr h) = inr (record { kind = refl; letters = h })
word_token d classes.Other w h = tt
word_token d _ w h = absurd h

symbol_token : (d : List Declared) (c : Class) (characters : List ℕ) → IsOfSymbol c characters → Says d c (record { kind = kinds.Symbol; characters = characters })
symbol_token d classes.Star s h = record { kind = refl; is = h }
symbol_token d classes.Opening s h = record { kind = refl; is = h }
symbol_token d classes.Closing s h = record { kind = refl; is = h }
symbol_token d classes.Dot s h = record { kind = refl; is = h }
symbol_token d classes.Comma s h = record { kind = refl; is = h }
symbol_token d classes.Semicolon s h = record { kind = refl; is = h }
symbol_token d classes.Carets s h = record { kind = refl; is = h }
symbol_token d classes.Other s h = tt
symbol_token d _ s h = absurd h

says : (d : List Declared) (kind : TokenKind) (characters : List ℕ) → IsOf kind characters
    → Says d (class_by d kind characters) (record { kind = kind; characters = characters })
says d kinds.Iriref cs h = (h.0, record { kind = refl; is = h.1 })
says d kinds.Str cs h = (h.0, record { kind = refl; is = h.1 })
says d kinds.Langtag cs h = (h.0, record { kind = refl; is = h.1 })
says d kinds.Var cs h = (h.0, record { kind = refl; is = h.1 })
says d kinds.Label cs h = (h.0, record { kind = refl; is = h.1 })
says d kinds.PrefixName cs h = (h.0, h.1, record { kind = refl; is = h.2 }, refl, refl)
says d kinds.Integer cs h = record { kind = refl; is = h }
says d kinds.Decimal cs h = record { kind = refl; is = h }
says d kinds.Double cs h = tt
says d kinds.Long cs h = tt
says d kinds.Word cs h = word_token d (word_class cs) cs (word_says cs)
says d kinds.Symbol cs h = symbol_token d (symbol_class cs) cs (symbol_says cs h)

pub class_says : (d : List Declared) (token : Token) → IsToken token → Says d (class d token) token
class_says d token h = says d token.kind token.characters h
