-- Lists of static objects with those of one number more.
use Rattle.std.proofs.Common.{◌≡◌, ℕ, suc, ◌+◌, Bool, true, false, List, [], ◌∷◌, ◌++◌, length, Option, Some, None, refl, sym, ap, ◌∙◌, subst, arith}
use Rattle.std.specs.Prelude.{sum_by}
use Rattle.std.proofs.lemmas.List.{append-nil}
use Rattle.std.proofs.lemmas.List.Sums.{sum_by-append}
use Rattle.filc_num.specs.declared.statics.StaticDef.{StaticDef}
use Rattle.filc_num.specs.Statics.{payload_words_of}
use Rattle.c_expr_rules.specs.declared.above.Fill.{Fill}
use Rattle.c_expr_rules.specs.declared.above.Placed.{Placed}
use Rattle.c_expr_rules.specs.Outcomes.{State}
use Rattle.c_expr_rules.specs.declared.state.Literal.{Literal}
use Rattle.c_objects.specs.Contents.{in_list, object_of, text_of, filled_of, IsOneOf}
use Rattle.c_file_rules.specs.Files.{IsStatic, AreStatics, words_in}
use Rattle.c_file_rules.specs.Statics.{PlainStatic, static_with, static_at, static_or_text, text_static, byte_fills, fills_in}
use Rattle.c_objects.proofs.Words.{length_of_words}

statics_push : (ps : List PlainStatic) (ds : List StaticDef) (p : PlainStatic) (d : StaticDef) → AreStatics ps ds → IsStatic p d → AreStatics (ps ++ p ∷ []) (ds ++ d ∷ [])
statics_push [] [] p d h e = (e, tt)
statics_push [] (d0 ∷ ds) p d h e = absurd h
statics_push (p0 ∷ ps) [] p d h e = absurd h
statics_push (p0 ∷ ps) (d0 ∷ ds) p d h e = (h.0, statics_push ps ds p d h.1 e)

pub statics_on : (ps more : List PlainStatic) (ds : List StaticDef) (made : Option StaticDef) → AreStatics ps ds → IsOneOf more made → AreStatics (ps ++ more) (ds ++ in_list made)
statics_on ps [] ds None h e = rw (append-nil ps, append-nil ds) h
statics_on ps [] ds (Some d) h e = absurd e
statics_on ps (p ∷ []) ds None h e = absurd e
statics_on ps (p ∷ []) ds (Some d) h e = statics_push ps ds p d h e
statics_on ps (p ∷ q ∷ more) ds None h e = absurd e
statics_on ps (p ∷ q ∷ more) ds (Some d) h e = absurd e

pub words_on : (ps more : List PlainStatic) → words_in (ps ++ more) ≡ words_in ps + words_in more
words_on ps more = sum_by-append (λ (x : PlainStatic). length x.words) ps more

words_of_one : (literal : Bool) (bytes : ℕ) (fills : List Fill) → words_in (static_with literal bytes fills ∷ []) ≡ payload_words_of bytes
words_of_one literal bytes fills = omega (arith, length_of_words fills (payload_words_of bytes) 0)

-- ---- the static object of a number

module _ (s : State) (n : ℕ) where
  pub object_words : (o : Placed) → object_of s n ≡ Some o → words_in (static_at s n) ≡ payload_words_of o.bytes
  object_words o e =
      ap (λ x. words_in (static_or_text s x (text_of s n))) e
      ∙ words_of_one false o.bytes (fills_in (filled_of s o.number))

  pub text_words : (l : Literal) → object_of s n ≡ None → text_of s n ≡ Some l → words_in (static_at s n) ≡ payload_words_of (suc (length l.bytes))
  text_words l e h =
      ap (λ x. words_in (static_or_text s x (text_of s n))) e ∙ ap (λ x. words_in (static_or_text s None x)) h
      ∙ words_of_one true (suc (length l.bytes)) (byte_fills 0 l.bytes)

  pub nothing_words : object_of s n ≡ None → text_of s n ≡ None → words_in (static_at s n) ≡ 0
  nothing_words e h =
      ap (λ x. words_in (static_or_text s x (text_of s n))) e ∙ ap (λ x. words_in (static_or_text s None x)) h

  pub object_is : (o : Placed) (d : StaticDef) → object_of s n ≡ Some o
      → IsStatic (static_with false o.bytes (fills_in (filled_of s o.number))) d → IsOneOf (static_at s n) (Some d)
  object_is o d e h = subst (λ (x : Option Placed). IsOneOf (static_or_text s x (text_of s n)) (Some d)) (sym e) h

  pub text_is : (l : Literal) (d : StaticDef) → object_of s n ≡ None → text_of s n ≡ Some l → IsStatic (text_static l) d
      → IsOneOf (static_at s n) (Some d)
  text_is l d e f h =
      subst (λ (x : Option Placed). IsOneOf (static_or_text s x (text_of s n)) (Some d)) (sym e)
      (subst (λ (x : Option Literal). IsOneOf (static_or_text s None x) (Some d)) (sym f) h)

  pub nothing_is : object_of s n ≡ None → text_of s n ≡ None → IsOneOf (static_at s n) None
  nothing_is e f =
      subst (λ (x : Option Placed). IsOneOf (static_or_text s x (text_of s n)) None) (sym e)
      (subst (λ (x : Option Literal). IsOneOf (static_or_text s None x) None) (sym f) tt)
