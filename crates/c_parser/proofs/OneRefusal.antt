-- A list is refused for one reason and at one token: of two refusals the earlier token would begin a list and not begin it.
use Rattle.std.proofs.Common.{◌≡◌, ℕ, ◌+◌, ◌<◌, ◌≤◌, List, [], ◌∷◌, ◌++◌, length, refl, sym, ap, ◌∙◌, subst, arith, rules, append_assoc}
use Rattle.std.specs.Prelude.{nat_lt, Bool, true, false}
use Rattle.c_parts.specs.declared.lexeme.Lexeme.{Lexeme}
use Rattle.c_parts.specs.Scopes.{State}
use Rattle.c_parts.specs.Reading.{Why, Syntax, Deep}
use Rattle.c_syntax.specs.Spelling.{files, most_nesting, Begins, IsRefusedAt, IsRefused, PrefixesBegin}
use Rattle.c_parser.specs.Parse.{RefusalsAreOne}

-- the longer of two fronts of a list is the shorter one, a next one, and more
record Longer {A : Type 0} (us rest vs : List A) : Type 0 where
  next : A
  more : List A
  behind : List A
  front : vs ≡ us ++ next ∷ more
  left : rest ≡ next ∷ behind

longer : {A : Type 0} (us rest vs others : List A) → us ++ rest ≡ vs ++ others → length us < length vs → Longer us rest vs
longer [] rest [] others e lt = absurd (omega (arith, lt))
longer [] rest (t ∷ vs) others e lt = record { next = t; more = vs; behind = vs ++ others; front = refl; left = e }
longer (u ∷ us) rest [] others e lt = absurd (omega (arith, lt))
longer (u ∷ us) rest (v ∷ vs) others e lt =
    let same : u ≡ v = cc in
    let tails : us ++ rest ≡ vs ++ others = cc in
    let l = longer us rest vs others tails (omega (arith, lt)) in
    record {
      next = l.next;
      more = l.more;
      behind = l.behind;
      front = ap (λ x. x ∷ vs) (sym same) ∙ ap (λ (xs : List _). u ∷ xs) l.front;
      left = l.left;
    }

-- two fronts of one length are one, and so is what is left
same_front : {A : Type 0} (us rest vs others : List A) → us ++ rest ≡ vs ++ others → length us ≡ length vs → (us ≡ vs) × (rest ≡ others)
same_front [] rest [] others e long = (refl, e)
same_front [] rest (v ∷ vs) others e long = absurd (omega (arith, long))
same_front (u ∷ us) rest [] others e long = absurd (omega (arith, long))
same_front (u ∷ us) rest (v ∷ vs) others e long =
    let same : u ≡ v = cc in
    let tails : us ++ rest ≡ vs ++ others = cc in
    let l = same_front us rest vs others tails (omega (arith, long)) in
    (ap (λ x. x ∷ us) same ∙ ap (λ (xs : List _). v ∷ xs) l.0, l.1)

module _ (prefixes : PrefixesBegin files) (n : State) (ts : List Lexeme) where
  -- the token at which a list is refused begins no list of so much nesting
  begins_none : (why : Why) (us rest behind : List Lexeme) (t : Lexeme) → rest ≡ t ∷ behind → IsRefusedAt files why n us rest → Begins files most_nesting n (us ++ t ∷ []) → ⊥
  begins_none Syntax us rest behind t is at begins = subst (IsRefusedAt files Syntax n us) is at most_nesting begins
  begins_none Deep us rest behind t is at begins = (subst (IsRefusedAt files Deep n us) is at).0 begins

  not_earlier : (why other : Why) (place there : ℕ) → IsRefused files why n ts place → IsRefused files other n ts there → place < there → ⊥
  not_earlier why other place there r s lt =
      let l = longer r.before r.rest s.before s.rest (sym r.whole ∙ s.whole) (omega (arith, lt, r.many, s.many)) in
      let front : s.before ≡ (r.before ++ l.next ∷ []) ++ l.more = l.front ∙ sym (append_assoc r.before (l.next ∷ []) l.more) in
      begins_none why r.before r.rest l.behind l.next l.left r.at
      (prefixes most_nesting n (r.before ++ l.next ∷ []) l.more (subst (Begins files most_nesting n) front s.begins))

  one_reason : (why other : Why) (us rest : List Lexeme) → IsRefusedAt files why n us rest → IsRefusedAt files other n us rest → why ≡ other
  one_reason Syntax Syntax us rest a b = refl
  one_reason Deep Deep us rest a b = refl
  one_reason Syntax Deep us [] a b = absurd b
  one_reason Syntax Deep us (t ∷ rest) a b = absurd (a (2 + most_nesting) b.1)
  one_reason Deep Syntax us [] a b = absurd a
  one_reason Deep Syntax us (t ∷ rest) a b = absurd (b (2 + most_nesting) a.1)

  one_refusal : (why other : Why) (place there : ℕ) → IsRefused files why n ts place → IsRefused files other n ts there → (why ≡ other) × (place ≡ there)
  one_refusal why other place there r s = by (nat_lt place there) (nat_lt there place) refl refl
    where
      by : (a b : Bool) → nat_lt place there ≡ a → nat_lt there place ≡ b → (why ≡ other) × (place ≡ there)
      by true b first second =
          let before : place < there = search rules in
          absurd (not_earlier why other place there r s before)
      by false true first second =
          let before : there < place = search rules in
          absurd (not_earlier other why there place s r before)
      by false false first second =
          let low : there ≤ place = search rules in
          let high : place ≤ there = search rules in
          let one : place ≡ there = omega (arith, low, high) in
          let fronts = same_front s.before s.rest r.before r.rest (sym s.whole ∙ r.whole) (omega (arith, one, r.many, s.many)) in (
            one_reason why other r.before r.rest r.at
                (subst (λ us. IsRefusedAt files other n us r.rest) fronts.0 (subst (IsRefusedAt files other n s.before) fronts.1 s.at)),
            one,
          )

pub one : PrefixesBegin files → RefusalsAreOne
one prefixes n ts why other place there r s = one_refusal prefixes n ts why other place there r s
