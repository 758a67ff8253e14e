-- The definition by cases: for each clause of the request a message that meets it, and one beside it that doesn't.
use Rattle.std.specs.Prelude.{ℕ, zero, suc, Bool, ◌&&◌, List, [], ◌∷◌, ◌++◌, length, replicate, eqb}
use Rattle.lists.specs.Lists.{same_list}
use Rattle.rules.specs.Seen.{Input, input_of}
use Rattle.secs.specs.Texts.{Bind, CarrierNotification, ProceedWithCarrier, CancelCarrier, SlotMap}
use Rattle.secs.specs.Request.{no_input, request_in}

-- ── Items, with one length byte ──
abbrev list : ℕ → List ℕ → List ℕ
list n items = 1 ∷ n ∷ items

abbrev text : List ℕ → List ℕ
text bytes = 0x41 ∷ length bytes ∷ bytes

abbrev u1 : ℕ → List ℕ
u1 n = 0xA5 ∷ 1 ∷ n ∷ []

-- so many U1
unfoldable pub u1s : ℕ → ℕ → List ℕ
u1s zero n = []
u1s (suc k) n = u1 n ++ u1s k n

abbrev pair : List ℕ → List ℕ → List ℕ
pair name value = list 2 (text name ++ value)

abbrev AB : List ℕ
AB = 0x41 ∷ 0x42 ∷ []

-- ── Messages ──
abbrev message : List ℕ → List ℕ → List ℕ → List ℕ → List ℕ → List ℕ
message id action name port attributes = list 5 (id ++ action ++ name ++ port ++ attributes)

abbrev asks : List ℕ → List ℕ → List ℕ
asks action attributes = message (u1 0) (text action) (text AB) (u1 7) attributes

abbrev plain : List ℕ → List ℕ
plain action = asks action (list 0 [])

-- with data id, name or port sent as other items, or with attributes
abbrev with_id : List ℕ → List ℕ
with_id id = message id (text Bind) (text AB) (u1 7) (list 0 [])

abbrev with_name : List ℕ → List ℕ
with_name name = message (u1 0) (text Bind) name (u1 7) (list 0 [])

abbrev with_port : List ℕ → List ℕ
with_port port = message (u1 0) (text Bind) (text AB) port (list 0 [])

abbrev with : List ℕ → List ℕ
with attribute = asks Bind (list 1 attribute)

abbrev mapped : List ℕ → List ℕ → List ℕ
mapped action value = asks action (list 1 (pair SlotMap value))

-- so many attributes
unfoldable pub attributes : ℕ → List ℕ
attributes zero = []
attributes (suc k) = pair AB (u1 1) ++ attributes k

-- ── What comes back ──
pub record Case : Type 0 where
  pub message : List ℕ
  pub refusal : ℕ
  pub count : ℕ
  pub input : Input

abbrev taken : List ℕ → ℕ → Input → Case
taken message count input = record { message = message; refusal = 0; count = count; input = input }

abbrev refused : List ℕ → ℕ → ℕ → Case
refused message refusal count = record { message = message; refusal = refusal; count = count; input = no_input }

abbrev bound : List ℕ → Input
bound codes = input_of 1 7 0 AB codes

abbrev same_input : Input → Input → Bool
same_input a b =
    eqb a.number b.number
    && eqb a.port b.port
    && eqb a.value b.value
    && same_list a.name b.name
    && same_list a.codes b.codes

unfoldable pub shown : Case → Bool
shown c =
    let r = request_in c.message in
    eqb r.refusal c.refusal && eqb r.count c.count && same_input r.input c.input

abbrev pub cases : List Case
cases =
    -- the four actions, exact bytes; row 3's port is dropped
    taken (plain Bind) 6 (bound [])
    ∷ taken (plain CarrierNotification) 6 (input_of 3 0 0 AB [])
    ∷ taken (plain ProceedWithCarrier) 6 (input_of 5 7 0 AB [])
    ∷ taken (plain CancelCarrier) 6 (input_of 6 7 0 AB [])
    ∷ refused (plain (0x62 ∷ 0x69 ∷ 0x6E ∷ 0x64 ∷ [])) 26 6
    ∷ refused (plain (0x42 ∷ 0x69 ∷ 0x6E ∷ [])) 26 6
    ∷ refused (plain (Bind ++ 0x20 ∷ [])) 26 6
    ∷ refused (plain []) 26 6
    ∷ refused (plain SlotMap) 26 6
    -- data id is any unsigned format, of one value
    ∷ taken (with_id (0xA9 ∷ 2 ∷ 1 ∷ 2 ∷ [])) 6 (bound [])
    ∷ taken (with_id (0xB1 ∷ 4 ∷ replicate 4 9)) 6 (bound [])
    ∷ taken (with_id (0xA1 ∷ 8 ∷ replicate 8 9)) 6 (bound [])
    ∷ refused (with_id (0x65 ∷ 1 ∷ 0 ∷ [])) 26 6
    ∷ refused (with_id (0x21 ∷ 1 ∷ 0 ∷ [])) 26 6
    ∷ refused (with_id (text AB)) 26 6
    ∷ refused (with_id (list 0 [])) 26 6
    ∷ refused (with_id (0xA5 ∷ 0 ∷ [])) 26 6
    ∷ refused (with_id (0xA5 ∷ 2 ∷ 0 ∷ 0 ∷ [])) 26 6
    -- a name is ASCII of any length and bytes: the tool judges it
    ∷ taken (with_name (text [])) 6 (input_of 1 7 0 [] [])
    ∷ taken (with_name (text (0 ∷ 0x20 ∷ 0xFF ∷ []))) 6 (input_of 1 7 0 (0 ∷ 0x20 ∷ 0xFF ∷ []) [])
    ∷ taken (with_name (text (replicate 40 0x41))) 6 (input_of 1 7 0 (replicate 40 0x41) [])
    ∷ refused (with_name (0x21 ∷ 2 ∷ AB)) 26 6
    ∷ refused (with_name (u1 7)) 26 6
    -- port is one U1
    ∷ taken (with_port (u1 0)) 6 (input_of 1 0 0 AB [])
    ∷ taken (with_port (u1 255)) 6 (input_of 1 255 0 AB [])
    ∷ refused (with_port (0xA5 ∷ 0 ∷ [])) 26 6
    ∷ refused (with_port (0xA5 ∷ 2 ∷ 7 ∷ 7 ∷ [])) 26 6
    ∷ refused (with_port (0xA9 ∷ 2 ∷ 0 ∷ 7 ∷ [])) 26 6
    ∷ refused (with_port (text (7 ∷ []))) 26 6
    -- a list of five, the last a list
    ∷ refused (u1 7) 26 1
    ∷ refused (list 0 []) 26 1
    ∷ refused (list 4 (u1 0 ++ text Bind ++ text AB ++ u1 7)) 26 5
    ∷ refused (list 6 (u1 0 ++ text Bind ++ text AB ++ u1 7 ++ list 0 [] ++ list 0 [])) 26 7
    ∷ refused (asks Bind (u1 0)) 26 6
    -- an attribute is a pair, a text first, its value any item
    ∷ taken (with (pair AB (u1 1))) 9 (bound [])
    ∷ taken (with (pair [] (list 1 (list 2 (text AB ++ list 0 []))))) 12 (bound [])
    ∷ taken (with (pair AB (0x91 ∷ 4 ∷ 0x7F ∷ 0xC0 ∷ 0 ∷ 1 ∷ []))) 9 (bound [])
    ∷ taken (with (pair AB (0x21 ∷ 2 ∷ 0 ∷ 0 ∷ []))) 9 (bound [])
    ∷ refused (with (u1 1)) 26 7
    ∷ refused (with (list 1 (text AB))) 26 8
    ∷ refused (with (list 3 (text AB ++ u1 1 ++ u1 1))) 26 10
    ∷ refused (with (list 2 (u1 1 ++ text AB))) 26 9
    ∷ refused (asks Bind (list 2 (pair AB (u1 1) ++ u1 1))) 26 10
    -- a number or boolean holds one value, inside dropped attributes too
    ∷ refused (with (pair AB (0x25 ∷ 0 ∷ []))) 26 9
    ∷ refused (with (pair AB (0x91 ∷ 8 ∷ replicate 8 0))) 26 9
    ∷ refused (with (pair AB (list 1 (0xA5 ∷ 0 ∷ [])))) 26 10
    -- a first attribute SlotMap is a list of 25 U1 in all four rows, and P1's map in rows 1 and 3; the tool judges the codes
    ∷ taken (mapped Bind (list 25 (u1s 25 3))) 34 (bound (replicate 25 3))
    ∷ taken (mapped Bind (list 25 (u1 255 ++ u1s 24 0))) 34 (bound (255 ∷ replicate 24 0))
    ∷ taken (mapped CarrierNotification (list 25 (u1s 25 1))) 34 (input_of 3 0 0 AB (replicate 25 1))
    ∷ taken (mapped ProceedWithCarrier (list 25 (u1s 25 1))) 34 (input_of 5 7 0 AB [])
    ∷ taken (mapped CancelCarrier (list 25 (u1s 25 1))) 34 (input_of 6 7 0 AB [])
    ∷ refused (mapped Bind (list 24 (u1s 24 1))) 26 33
    ∷ refused (mapped Bind (list 26 (u1s 26 1))) 26 35
    ∷ refused (mapped Bind (list 25 (u1s 24 1 ++ 0xA9 ∷ 2 ∷ 0 ∷ 1 ∷ []))) 26 34
    ∷ refused (mapped Bind (list 25 (u1s 24 1 ++ 0xA5 ∷ 0 ∷ []))) 26 34
    ∷ refused (mapped Bind (0xA5 ∷ 25 ∷ replicate 25 1)) 26 9
    ∷ refused (mapped Bind (list 0 [])) 26 9
    ∷ refused (mapped CancelCarrier (list 24 (u1s 24 1))) 26 33
    -- the same codes with other length bytes
    ∷ taken (mapped Bind (2 ∷ 0 ∷ 25 ∷ 0xA7 ∷ 0 ∷ 0 ∷ 1 ∷ 2 ∷ u1s 24 3)) 34 (bound (2 ∷ replicate 24 3))
    -- one at a later place is the rest, and so is another name
    ∷ taken (asks Bind (list 2 (pair AB (u1 1) ++ pair SlotMap (list 25 (u1s 25 3))))) 37 (bound [])
    ∷ taken (asks Bind (list 2 (pair AB (u1 1) ++ pair SlotMap (u1 1)))) 12 (bound [])
    ∷ taken (asks Bind (list 2 (pair SlotMap (list 25 (u1s 25 3)) ++ pair SlotMap (u1 1)))) 37 (bound (replicate 25 3))
    ∷ taken (with (pair (SlotMap ++ 0x20 ∷ []) (u1 1))) 9 (bound [])
    -- 20 to 24 come first, then 25, then 26
    ∷ refused [] 20 0
    ∷ refused (with_port (0xA5 ∷ 2 ∷ 7 ∷ 7 ∷ []) ++ 0 ∷ []) 25 6
    ∷ refused (plain Bind ++ 0 ∷ []) 25 6
    ∷ refused (plain SlotMap ++ 0 ∷ []) 25 6
    ∷ refused (list 5 (u1 0 ++ text SlotMap ++ text AB ++ u1 7)) 20 5
    ∷ refused (with (pair AB (0xFD ∷ 0 ∷ [])) ++ 0 ∷ []) 21 8
    ∷ refused (with (pair AB (0xA9 ∷ 1 ∷ 0 ∷ []))) 22 8
    ∷ refused (with (pair AB (list 1 (list 1 (list 1 (list 0 [])))))) 23 11
    ∷ taken (with (pair AB (list 1 (list 1 (list 1 (text [])))))) 12 (bound [])
    ∷ refused (asks Bind (list 41 (attributes 41))) 24 128
    ∷ taken (asks Bind (list 40 (attributes 40))) 126 (bound [])
    ∷ []
