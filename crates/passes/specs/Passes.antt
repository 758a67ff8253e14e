-- What each pass over a tool's bytes looks at.
use Rattle.std.specs.Prelude.{ℕ, zero, suc, ◌+◌, ◌*◌, ◌%◌, ◌^◌, Bool, cond, ◌&&◌, ◌||◌, List, ◌==◌, nat_le}
use Rattle.lists.specs.Lists.{every}
use Rattle.records.specs.declared.carrier.Carrier.{Carrier}
use Rattle.records.specs.Names.{graphic, holds_name}
use Rattle.records.specs.Maps.{is_code}
use Rattle.rules.specs.Sound.{status_in_range}
use Rattle.image.specs.Image.{byte_at, carrier_from, carrier_start}

-- the record at a position
abbrev pub record_on : List ℕ → ℕ → Carrier
record_on m k = carrier_from m (carrier_start k)

abbrev pub is_zero : ℕ → Bool
is_zero b = b == 0

abbrev pub itself : Bool → Bool
itself b = b

-- A lane is one byte of every record. A byte of a name, and the one after it: graphic, or a zero that a zero follows; the
-- first is at least 1, and after the last (1 stands there in `last`) nothing follows.
abbrev pub name_lane : ℕ → ℕ → ℕ → ℕ → Bool
name_lane first last b next = ((b == 0 && (last == 1 || next == 0)) || graphic b) && nat_le first b

unfoldable pub named_by : Carrier → Bool
named_by c = holds_name c.name

-- the fields after place and spot, each within its bounds
unfoldable pub fields_fit : Carrier → Bool
fields_fit c = nat_le c.port 4 && (nat_le c.opened 1 && (nat_le c.cancelled 1 && (nat_le c.cameout 1 && (every is_code c.map
    && (status_in_range c.id && (status_in_range c.slot && status_in_range c.accessing))))))

-- one more than the last position below n whose key is v, or 0
unfoldable pub latest : (ℕ → ℕ) → ℕ → ℕ → ℕ
latest key v zero = 0
latest key v (suc n) = cond (key n == v) (suc n) (latest key v n)

-- n bytes as one number, the first the lowest; a name is two words
unfoldable pub number : ℕ → (ℕ → ℕ) → ℕ
number zero f = 0
number (suc n) f = f 0 + 256 * number n (λ i. f (suc i))

abbrev pub half : List ℕ → ℕ → ℕ
half m o = number 4 (λ i. byte_at m (o + i))

abbrev pub word : List ℕ → ℕ → ℕ
word m o = number 8 (λ i. byte_at m (o + i))

-- the mark that a name leaves: where names are the same the marks are
unfoldable pub mark : List ℕ → ℕ → ℕ
mark m o = (word m o + word m (o + 8) % 907 * 36) % 2 ^ 64 % 907

abbrev pub mark_key : List ℕ → ℕ → ℕ
mark_key m k = mark m (carrier_start k)
