-- A block's locals are gone through, with the homes that they get.
use Rattle.std.proofs.Common.{◌≡◌, ℕ, ◌+◌, ◌<◌, ◌≤◌, List, [], ◌∷◌, length, get_or, drop, reverse, refl, sym, ap, ◌∙◌, subst}
use Rattle.std.proofs.lemmas.List.{drop_more, drop_all, get_or_default, reverse-append}
use Rattle.c_tree.specs.declared.stmt.LocalDef.{LocalDef}
use Rattle.c_tree.specs.declared.stmt.LocalKind.{LocalKind}
use Rattle.c_tree.specs.declared.stmt.LocalKind.TheVariants as kind
use Rattle.c_tree.specs.Operands.{Context}
use Rattle.c_tree.specs.Fits.{LocalFits, LocalsFit, after_kind, in_block}
use Rattle.program_fits.specs.Parts.{homes_with, homes_after}

-- a place with these homes, the newest last
abbrev pub with_homes : Context → List ℕ → Context
with_homes here homes = record here { homes = reverse homes }

-- what is left of a block's locals, behind those before it, is all that is to be shown of the block
pub record IsLeft (here : Context) (homes : List ℕ) (rest locals : List LocalDef) : Type 0 where
  pub fits : LocalsFit (with_homes here homes) rest → LocalsFit here locals
  pub back : LocalsFit here locals → LocalsFit (with_homes here homes) rest
  pub inside : in_block (with_homes here homes) rest ≡ in_block here locals

same_place : (here : Context) (homes : List ℕ) → reverse homes ≡ here.homes → with_homes here homes ≡ here
same_place here homes e = ap (λ (h : List ℕ). record here { homes = h }) e

pub left_first : (here : Context) (homes : List ℕ) (locals : List LocalDef) → reverse homes ≡ here.homes → IsLeft here homes locals locals
left_first here homes locals e = record {
  fits = λ h. subst (λ (c : Context). LocalsFit c locals) (same_place here homes e) h;
  back = λ h. subst (λ (c : Context). LocalsFit c locals) (sym (same_place here homes e)) h;
  inside = ap (λ (c : Context). in_block c locals) (same_place here homes e);
}

after_home : (here : Context) (local : ℕ) (k : LocalKind) (homes : List ℕ) → after_kind local k (with_homes here homes) ≡ with_homes here (homes_with local k homes)
after_home here local kind.Zero homes = refl
after_home here local (kind.Home bytes) homes = ap (λ (h : List ℕ). record here { homes = h }) (sym (reverse-append homes (local ∷ [])))
after_home here local (kind.Moved bytes lies) homes = ap (λ (h : List ℕ). record here { homes = h }) (sym (reverse-append homes (local ∷ [])))

-- one local more
left_cons :
    (here : Context) (homes next : List ℕ) (d : LocalDef) (rest locals : List LocalDef) → next ≡ homes_after d homes → LocalFits (with_homes here homes) d →
    IsLeft here homes (d ∷ rest) locals → IsLeft here next rest locals
left_cons here homes next d rest locals e now left =
    let same : after_kind d.local d.kind (with_homes here homes) ≡ with_homes here next = after_home here d.local d.kind homes ∙ ap (λ (h : List ℕ). with_homes here h) (sym e) in
    record {
      fits = λ h. left.fits (now, subst (λ (c : Context). LocalsFit c rest) (sym same) h);
      back = λ h. subst (λ (c : Context). LocalsFit c rest) same (left.back h).1;
      inside = ap (λ (c : Context). in_block c rest) (sym same) ∙ left.inside;
    }

pub left_more :
    (here : Context) (homes next : List ℕ) (locals : List LocalDef) (i : ℕ) (d : LocalDef) → i < length locals → d ≡ get_or locals i d →
    next ≡ homes_after d homes → LocalFits (with_homes here homes) d → IsLeft here homes (drop i locals) locals → IsLeft here next (drop (i + 1) locals) locals
left_more here homes next locals i d within is e now left =
    let more : drop i locals ≡ d ∷ drop (i + 1) locals = drop_more locals i d within ∙ ap (λ (x : LocalDef). x ∷ drop (i + 1) locals) (sym is) in
    left_cons here homes next d (drop (i + 1) locals) locals e now (subst (λ (l : List LocalDef). IsLeft here homes l locals) more left)

-- a local that doesn't fit
pub left_none :
    (here : Context) (homes : List ℕ) (locals : List LocalDef) (i : ℕ) (d : LocalDef) → i < length locals → d ≡ get_or locals i d →
    (LocalFits (with_homes here homes) d → ⊥) → IsLeft here homes (drop i locals) locals → LocalsFit here locals → ⊥
left_none here homes locals i d within is lacks left all =
    let more : drop i locals ≡ d ∷ drop (i + 1) locals = drop_more locals i d within ∙ ap (λ (x : LocalDef). x ∷ drop (i + 1) locals) (sym is) in
    lacks (subst (λ (l : List LocalDef). LocalsFit (with_homes here homes) l) more (left.back all)).0

pub left_fits : (here : Context) (homes : List ℕ) (locals : List LocalDef) (i : ℕ) → length locals ≤ i → IsLeft here homes (drop i locals) locals → LocalsFit here locals
left_fits here homes locals i past left = left.fits (subst (λ (l : List LocalDef). LocalsFit (with_homes here homes) l) (sym (drop_all i locals past)) tt)

pub left_inside :
    (here : Context) (homes : List ℕ) (locals : List LocalDef) (i : ℕ) → length locals ≤ i → IsLeft here homes (drop i locals) locals →
    in_block here locals ≡ with_homes here homes
left_inside here homes locals i past left = sym left.inside ∙ ap (λ (l : List LocalDef). in_block (with_homes here homes) l) (drop_all i locals past)

pub inside_block :
    (here inside : Context) (locals : List LocalDef) (homes items : List ℕ) → inside ≡ with_homes here items → items ≡ homes →
    in_block here locals ≡ with_homes here homes → inside ≡ in_block here locals
inside_block here inside locals homes items is same behind = is ∙ ap (λ (h : List ℕ). with_homes here h) same ∙ sym behind

-- ---- the same where a local is read from its list

pub read_more :
    (here : Context) (homes next : List ℕ) (locals : List LocalDef) (i : ℕ) (e : LocalDef) → i < length locals →
    next ≡ homes_after (get_or locals i e) homes → LocalFits (with_homes here homes) (get_or locals i e) → IsLeft here homes (drop i locals) locals →
    IsLeft here next (drop (i + 1) locals) locals
read_more here homes next locals i e within is now left =
    left_more here homes next locals i (get_or locals i e) within (get_or_default locals i e (get_or locals i e) within) is now left

pub read_none :
    (here : Context) (homes : List ℕ) (locals : List LocalDef) (i : ℕ) (e : LocalDef) → i < length locals →
    (LocalFits (with_homes here homes) (get_or locals i e) → ⊥) → IsLeft here homes (drop i locals) locals → LocalsFit here locals → ⊥
read_none here homes locals i e within lacks left all =
    left_none here homes locals i (get_or locals i e) within (get_or_default locals i e (get_or locals i e) within) lacks left all
