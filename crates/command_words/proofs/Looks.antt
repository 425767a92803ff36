-- What clap sees of a word, by how the word looks.
use Rattle.std.{proofs.Common.{◌≡◌, ◌∙◌, ◌<◌, ℕ, Bool, true, false, refl, sym, ap, subst, arith, List, [], ◌∷◌, length, Some, None, ◌==◌}, specs.Prelude.{slice_get}}
use Rattle.std.{specs.{Char.{encode_utf8}, Str.{bytes_eq, chars, IsUtf8, encode_utf8_all}}, proofs.lemmas.{Bool.Decides.{Decides-eqb}, Str.{encodes-chars}}}
use Rattle.clap.specs.Lexer.{long_of, short_of}
use Rattle.command_words.specs.Assigned.{Text, Look, closing, named, dashed, plain, look_of_word, after_dash, after_dashes}

abbrev pub Dashes : Text
Dashes = 45 ∷ 45 ∷ []

-- a flag word: what follows its dash has a first character
pub record HasFlags (word : Text) : Type 0 where
  pub flags : Text
  pub short : short_of word ≡ Some flags
  pub some : 0 < length flags
  pub first : IsUtf8 word → (c : ℕ) × (slice_get (chars flags) 0 ≡ Some c)

abbrev pub IsSeen : Look → Text → Type 0
IsSeen closing word = word ≡ Dashes
IsSeen (named name value) word = (bytes_eq word Dashes ≡ false) × (long_of word ≡ Some (name, value))
IsSeen dashed word = (bytes_eq word Dashes ≡ false) × (long_of word ≡ None) × HasFlags word
IsSeen plain word = (bytes_eq word Dashes ≡ false) × (long_of word ≡ None) × (short_of word ≡ None)

chars_after_dash : (rest : Text) → chars (45 ∷ rest) ≡ 45 ∷ chars rest
unfolding chars
chars_after_dash [] = refl
chars_after_dash (b ∷ bs) = refl

one_dash : encode_utf8_all (45 ∷ []) ≡ 45 ∷ []
unfolding encode_utf8
one_dash = refl

first_flag : (f : ℕ) (rest : Text) → IsUtf8 (45 ∷ f ∷ rest) → (c : ℕ) × (slice_get (chars (f ∷ rest)) 0 ≡ Some c)
first_flag f rest text = go (chars (f ∷ rest)) refl
  where
    go : (cs : List ℕ) → chars (f ∷ rest) ≡ cs → (c : ℕ) × (slice_get (chars (f ∷ rest)) 0 ≡ Some c)
    go [] e =
        let all : encode_utf8_all (45 ∷ []) ≡ 45 ∷ f ∷ rest = ap encode_utf8_all (sym (chars_after_dash (f ∷ rest) ∙ ap (λ cs. 45 ∷ cs) e))
        ∙ encodes-chars (45 ∷ f ∷ rest) text in
        let bad : 45 ∷ [] ≡ 45 ∷ f ∷ rest = sym one_dash ∙ all in
        cc
    go (c ∷ cs) e = (c, rw e refl)

seen_dashes : (rest : Text) → IsSeen (after_dashes rest) (45 ∷ 45 ∷ rest)
seen_dashes [] = refl
seen_dashes (b ∷ bs) = (refl, refl)

seen_dash : (rest : Text) → IsSeen (after_dash rest) (45 ∷ rest)
seen_dash [] = (refl, refl, refl)
seen_dash (s ∷ rest) = go (s == 45) refl
  where
    go : (b : Bool) → (s == 45) ≡ b → IsSeen (after_dash (s ∷ rest)) (45 ∷ s ∷ rest)
    go true e = let is : 45 ≡ s = sym ((Decides-eqb s 45).0 e) in subst (λ (x : ℕ). IsSeen (after_dash (x ∷ rest)) (45 ∷ x ∷ rest)) is
        (seen_dashes rest)
    go false e = rw e (
      rw e refl,
      rw e refl,
      record {
        flags = s ∷ rest;
        short = rw e refl;
        some = omega arith;
        first = first_flag s rest;
      },
    )

pub seen : (word : Text) → IsSeen (look_of_word word) word
seen [] = (refl, refl, refl)
seen (f ∷ rest) = go (f == 45) refl
  where
    go : (b : Bool) → (f == 45) ≡ b → IsSeen (look_of_word (f ∷ rest)) (f ∷ rest)
    go true e = let is : 45 ≡ f = sym ((Decides-eqb f 45).0 e) in subst (λ (x : ℕ). IsSeen (look_of_word (x ∷ rest)) (x ∷ rest)) is (seen_dash rest)
    go false e = rw e (rw e refl, rw e refl, rw e refl)
