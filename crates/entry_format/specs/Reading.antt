-- Reading the fields of a file from its front. Assumes nothing.
use Rattle.std.specs.Prelude.{ℕ, zero, suc, ◌+◌, ◌*◌, Bool, false, cond, List, [], ◌∷◌, ◌++◌, nat_le}
use Rattle.entry_format.specs.declared.fault.LoadFault.{LoadFault}
use Rattle.entry_format.specs.declared.fault.LoadFault.TheVariants.{Read}
use Rattle.entry_format.specs.declared.fault.ReadFault.{ReadFault}
use Rattle.entry_format.specs.declared.fault.ReadFault.TheVariants.{EndOfFile, BadName}

-- the bytes that are still to be read, and the place of the first of them in the file
pub record Input : Type 0 where
  pub rest : List ℕ
  pub place : ℕ

abbrev pub input : List ℕ → ℕ → Input
input rest place = record { rest = rest; place = place }

-- what was read and what is still to be read, or a fault of the kind F
pub data Parsed (F V : Type 0) : Type 0 where
  got : V → Input → Parsed F V
  bad : F → Parsed F V

-- one reading after another
abbrev pub and_then : {F V W : Type 0} → Parsed F V → (V → Input → Parsed F W) → Parsed F W
and_then (got v l) f = f v l
and_then (bad e) f = bad e

-- n readings, one after another, behind the values of `done`, on which each reading may depend
abbrev pub series : {F V : Type 0} → (List V → Input → Parsed F V) → ℕ → List V → Input → Parsed F (List V)
series read zero done l = got done l
series read (suc n) done l = and_then (read done l) (λ v after. series read n (done ++ v ∷ []) after)

-- a reader's fault as the loader's
abbrev pub lift : {V : Type 0} → Parsed ReadFault V → Parsed LoadFault V
lift (got v l) = got v l
lift (bad e) = bad (Read e)

abbrev pub byte_of : List ℕ → ℕ → Parsed ReadFault ℕ
byte_of [] place = bad (EndOfFile place)
byte_of (b ∷ bs) place = got b (input bs (place + 1))

abbrev pub read_byte : Input → Parsed ReadFault ℕ
read_byte l = byte_of l.rest l.place

-- a number of two bytes, the high byte first
abbrev pub read_count : Input → Parsed ReadFault ℕ
read_count l = and_then (read_byte l) (λ high l₁. and_then (read_byte l₁) (λ low l₂. got (high * 256 + low) l₂))

abbrev pub within : ℕ → ℕ → ℕ → Bool
within low high n = cond (nat_le low n) (nat_le n high) false

-- a byte that a name may have: hexadecimal 21 to 7E
abbrev pub printable : ℕ → Bool
printable b = within 33 126 b

-- a length that a name may have
abbrev pub name_length : ℕ → Bool
name_length n = within 1 32 n

-- a name: its bytes, and its place, which is that of its length byte
pub record NameModel : Type 0 where
  pub text : List ℕ
  pub at : ℕ

abbrev pub read_name_byte : Input → Parsed ReadFault ℕ
read_name_byte l = and_then (read_byte l) (λ b after. cond (printable b) (got b after) (bad (BadName l.place)))

-- n bytes of a name, behind those of `done`
abbrev pub read_name_bytes : ℕ → List ℕ → Input → Parsed ReadFault (List ℕ)
read_name_bytes n done l = series (λ _. read_name_byte) n done l

abbrev pub read_name : Input → Parsed ReadFault NameModel
read_name l =
    and_then (read_byte l) (λ n l₁.
    cond (name_length n)
    (and_then (read_name_bytes n [] l₁) (λ text l₂. got (record { text = text; at = l.place }) l₂))
    (bad (BadName l.place)))
