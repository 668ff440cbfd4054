-- Text as bytes (01, 'Bays to run'): numerals, and the lines of a listing that never change.
use Rattle.std.specs.Prelude.{ℕ, zero, suc, ◌+◌, ◌-◌, ◌/◌, ◌%◌, ◌&&◌, cond, List, [], ◌∷◌, ◌++◌, eqb, ltb}

-- the digit d below 16, in lower case
abbrev pub digit : ℕ → ℕ
digit d = cond (ltb d 10) (48 + d) (87 + d)

-- the numeral of x with at least `width` digits, and no more zeros in front; width + x steps are enough
unfoldable pub numeral_in : (steps base width x : ℕ) → List ℕ
numeral_in zero base width x = []
numeral_in (suc n) base width x =
    cond (eqb width 0 && eqb x 0) [] (numeral_in n base (width - 1) (x / base) ++ digit (x % base) ∷ [])

unfoldable pub numeral : (base width x : ℕ) → List ℕ
numeral base width x = numeral_in (width + x) base width x

abbrev pub space : ℕ
space = 0x20

abbrev pub newline : ℕ
newline = 0x0A

-- instant code kind place emitted labels
abbrev pub heading : List ℕ
heading =
    0x69 ∷ 0x6E ∷ 0x73 ∷ 0x74 ∷ 0x61 ∷ 0x6E ∷ 0x74 ∷ space
    ∷ 0x63 ∷ 0x6F ∷ 0x64 ∷ 0x65 ∷ space
    ∷ 0x6B ∷ 0x69 ∷ 0x6E ∷ 0x64 ∷ space
    ∷ 0x70 ∷ 0x6C ∷ 0x61 ∷ 0x63 ∷ 0x65 ∷ space
    ∷ 0x65 ∷ 0x6D ∷ 0x69 ∷ 0x74 ∷ 0x74 ∷ 0x65 ∷ 0x64 ∷ space
    ∷ 0x6C ∷ 0x61 ∷ 0x62 ∷ 0x65 ∷ 0x6C ∷ 0x73 ∷ newline ∷ []

-- end
abbrev pub ending : List ℕ
ending = 0x65 ∷ 0x6E ∷ 0x64 ∷ newline ∷ []

-- input cut
abbrev pub input_cut : List ℕ
input_cut = 0x69 ∷ 0x6E ∷ 0x70 ∷ 0x75 ∷ 0x74 ∷ space ∷ 0x63 ∷ 0x75 ∷ 0x74 ∷ newline ∷ []

-- refused, a space and the number
abbrev pub refusal : ℕ → List ℕ
refusal number = (0x72 ∷ 0x65 ∷ 0x66 ∷ 0x75 ∷ 0x73 ∷ 0x65 ∷ 0x64 ∷ space ∷ []) ++ (numeral 10 1 number ++ newline ∷ [])
