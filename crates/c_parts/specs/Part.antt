-- Parts of a grammar: what a list of tokens spells, and which lists begin something that is spelled.
use Rattle.std.specs.Prelude.{◌≡◌, List, [], ◌∷◌, ◌++◌, ◌⊎◌}
use Rattle.c_parts.specs.declared.lexeme.Lexeme.{Lexeme}
use Rattle.c_parts.specs.Scopes.{State, next}

-- A part of a grammar says which list spells which value, with the state before it and after it,
-- and which lists are the beginning of one that spells a value.
pub record Part (X : Type 0) : Type 1 where
  pub Spells : State → List Lexeme → X → State → Type 0
  pub Front : State → List Lexeme → Type 0

-- ---- one token

pub record OneSpells {X : Type 0} (Is : State → Lexeme → X → Type 0) (n : State) (ts : List Lexeme) (x : X) (m : State) : Type 0 where
  pub token : Lexeme
  pub whole : ts ≡ token ∷ []
  pub is : Is n token x
  pub moved : m ≡ next n token

pub record OneFront {X : Type 0} (Is : State → Lexeme → X → Type 0) (n : State) (ts : List Lexeme) : Type 0 where
  pub token : Lexeme
  pub value : X
  pub whole : ts ≡ token ∷ []
  pub is : Is n token value

abbrev pub one : {X : Type 0} → (State → Lexeme → X → Type 0) → Part X
one Is = record { Spells = OneSpells Is; Front = λ n ts. (ts ≡ []) ⊎ OneFront Is n ts }

-- ---- one part, and then another that may depend on the first's value

pub record TurnSpells {A B : Type 0} (p : Part A) (q : A → Part B) (n : State) (ts : List Lexeme) (x : A × B) (m : State) : Type 0 where
  pub first : List Lexeme
  pub second : List Lexeme
  pub between : State
  pub whole : ts ≡ first ++ second
  pub left : p.Spells n first x.0 between
  pub right : (q x.0).Spells between second x.1 m

-- the whole of the first part, and a front of the second
pub record TurnFront {A B : Type 0} (p : Part A) (q : A → Part B) (n : State) (ts : List Lexeme) : Type 0 where
  pub first : List Lexeme
  pub second : List Lexeme
  pub value : A
  pub between : State
  pub whole : ts ≡ first ++ second
  pub left : p.Spells n first value between
  pub right : (q value).Front between second

infixr 6 ◌&>◌
abbrev pub ◌&>◌ : {A B : Type 0} → Part A → (A → Part B) → Part (A × B)
p &> q = record { Spells = TurnSpells p q; Front = λ n ts. p.Front n ts ⊎ TurnFront p q n ts }

-- ---- either of two parts

infixr 5 ◌⊔◌
abbrev pub ◌⊔◌ : {A : Type 0} → Part A → Part A → Part A
p ⊔ q = record { Spells = λ n ts x m. p.Spells n ts x m ⊎ q.Spells n ts x m; Front = λ n ts. p.Front n ts ⊎ q.Front n ts }

-- ---- a part that is read from another state, with a value and a state made of its value and of the states round it

pub record ShapedSpells {A B : Type 0} (b : State → State) (f : State → A → State → B) (g : State → A → State → State) (p : Part A)
    (n : State) (ts : List Lexeme) (y : B) (m : State) : Type 0 where
  pub value : A
  pub after : State
  pub made : y ≡ f n value after
  pub moved : m ≡ g n value after
  pub of : p.Spells (b n) ts value after

abbrev pub shaped : {A B : Type 0} → (State → State) → (State → A → State → B) → (State → A → State → State) → Part A → Part B
shaped b f g p = record { Spells = ShapedSpells b f g p; Front = λ n ts. p.Front (b n) ts }

-- the part with its value changed
abbrev pub made : {A B : Type 0} → (A → B) → Part A → Part B
made f p = shaped (λ n. n) (λ n x k. f x) (λ n x k. k) p

-- ---- any number of a part

pub record MoreSpells {A : Type 0} (p : Part A) (Rest : State → List Lexeme → State → Type 0) (n : State) (ts : List Lexeme) (x : A) (m : State) : Type 0 where
  pub first : List Lexeme
  pub second : List Lexeme
  pub between : State
  pub whole : ts ≡ first ++ second
  pub left : p.Spells n first x between
  pub right : Rest between second m

abbrev pub ManySpells : {A : Type 0} → Part A → State → List Lexeme → List A → State → Type 0
ManySpells p n ts [] m = (ts ≡ []) × (m ≡ n)
ManySpells p n ts (x ∷ xs) m = MoreSpells p (λ k us l. ManySpells p k us xs l) n ts x m

pub record ManyFront {A : Type 0} (p : Part A) (n : State) (ts : List Lexeme) : Type 0 where
  pub first : List Lexeme
  pub second : List Lexeme
  pub values : List A
  pub between : State
  pub whole : ts ≡ first ++ second
  pub left : ManySpells p n first values between
  pub right : p.Front between second

abbrev pub many : {A : Type 0} → Part A → Part (List A)
many p = record { Spells = ManySpells p; Front = ManyFront p }

-- ---- nothing

abbrev pub nothing : {A : Type 0} → A → Part A
nothing a = record { Spells = λ n ts x m. (ts ≡ []) × (x ≡ a) × (m ≡ n); Front = λ n ts. ts ≡ [] }

-- ---- deeper than nesting goes

abbrev pub never : {A : Type 0} → Part A
never = record { Spells = λ n ts x m. ⊥; Front = λ n ts. ts ≡ [] }

-- ---- one part as far as it goes, and then another

-- the first of the tokens that follow doesn't carry the part on
abbrev pub Stops : {X : Type 0} → Part X → State → List Lexeme → List Lexeme → Type 0
Stops p n us [] = Unit {0}
Stops p n us (t ∷ rest) = p.Front n (us ++ (t ∷ [])) → ⊥

pub record FarSpells {A B : Type 0} (p : Part A) (q : Part B) (n : State) (ts : List Lexeme) (x : A × B) (m : State) : Type 0 where
  pub turn : TurnSpells p (λ y. q) n ts x m
  pub stops : Stops p n turn.first turn.second

pub record FarFront {A B : Type 0} (p : Part A) (q : Part B) (n : State) (ts : List Lexeme) : Type 0 where
  pub turn : TurnFront p (λ y. q) n ts
  pub stops : Stops p n turn.first turn.second

infixr 6 ◌>&◌
abbrev pub ◌>&◌ : {A B : Type 0} → Part A → Part B → Part (A × B)
p >& q = record { Spells = FarSpells p q; Front = λ n ts. p.Front n ts ⊎ FarFront p q n ts }
