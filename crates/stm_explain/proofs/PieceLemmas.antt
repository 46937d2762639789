-- Lemmas on texts that are written one after the other.
use Rattle.std.proofs.Common.{ℕ, List, ◌++◌, ◌≡◌, Option, ap, ◌∙◌, append_assoc}
use Rattle.std.proofs.KnownBytes.{Appends-trans}
use Rattle.std.specs.Io.KnownBytes.{Appends}
use Rattle.stm_devices.specs.Transfers.{WritesFront}

-- a prefix of a text is one of a longer text
pub longer : (old new : Option (List ℕ)) (text more : List ℕ) → WritesFront old new text → WritesFront old new (text ++ more)
longer old new text more (front, rest, is, written) = (front, rest ++ more, ap (λ (x : List ℕ). x ++ more) is ∙ append_assoc front rest more, written)

-- a prefix of a text after what was written
pub behind : (old mid new : Option (List ℕ)) (so_far text : List ℕ) → Appends old mid so_far → WritesFront mid new text → WritesFront old new (so_far ++ text)
behind old mid new so_far text done (front, rest, is, written) = (
  so_far ++ front,
  rest,
  ap (λ (x : List ℕ). so_far ++ x) is ∙ simp append_assoc,
  Appends-trans old mid new so_far front done written,
)

-- five texts, of which the second two were written together
pub grouped : (one two three four five : List ℕ) → (((one ++ two) ++ three) ++ four) ++ five ≡ ((one ++ two) ++ (three ++ four)) ++ five
grouped one two three four five = ap (λ (x : List ℕ). x ++ five) (append_assoc (one ++ two) three four)
