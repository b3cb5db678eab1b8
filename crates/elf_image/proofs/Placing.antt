-- A part in memory, byte by byte.
use Rattle.std.proofs.Common.{◌≡◌, ℕ, ◌+◌, ◌-◌, ◌<◌, ◌≤◌, List, ◌++◌, length, get_or, take, drop, refl, ap, ◌∙◌, arith, length-append, length-drop, length-take}
use Rattle.std.proofs.lemmas.List.{get_or-append_right, get_or-drop, get_or-take, get_or_append_left, length-take-le}
use Rattle.elf_image.specs.Image.{with_part}
use Rattle.elf_image.specs.declared.part.Part.{Part}

module _ (part : Part) (memory : List ℕ) (fits : part.addr + length part.bytes ≤ length memory) where
  pub part_length : length (with_part part memory) ≡ length memory
  part_length =
      let end = part.addr + length part.bytes in
      omega (arith, length-append (take part.addr memory) (part.bytes ++ drop end memory), length-append part.bytes (drop end memory), length-take part.addr memory, length-drop end memory, fits)

  front_length : length (take part.addr memory) ≡ part.addr
  front_length = length-take-le part.addr memory (omega (arith, fits))

  pub byte_inside : (a : ℕ) → part.addr ≤ a → a < part.addr + length part.bytes → get_or (with_part part memory) a 0 ≡ get_or part.bytes (a - part.addr) 0
  byte_inside a from below =
      let end = part.addr + length part.bytes in
      get_or-append_right (take part.addr memory) (part.bytes ++ drop end memory) part.addr a 0 front_length from
      ∙ get_or_append_left part.bytes (drop end memory) 0 (a - part.addr) (omega (arith, from, below))

  pub byte_below : (a : ℕ) → a < part.addr → get_or (with_part part memory) a 0 ≡ get_or memory a 0
  byte_below a below =
      let end = part.addr + length part.bytes in
      get_or_append_left (take part.addr memory) (part.bytes ++ drop end memory) 0 a (omega (arith, front_length, below))
      ∙ get_or-take part.addr memory a 0 below

  pub byte_above : (a : ℕ) → part.addr + length part.bytes ≤ a → get_or (with_part part memory) a 0 ≡ get_or memory a 0
  byte_above a above =
      let end = part.addr + length part.bytes in
      let there : end + (a - part.addr - length part.bytes) ≡ a = omega (arith, above) in
      get_or-append_right (take part.addr memory) (part.bytes ++ drop end memory) part.addr a 0 front_length (omega (arith, above))
      ∙ get_or-append_right part.bytes (drop end memory) (length part.bytes) (a - part.addr) 0 refl (omega (arith, above))
      ∙ get_or-drop end memory (a - part.addr - length part.bytes) 0 ∙ ap (λ (k : ℕ). get_or memory k 0) there
