-- The inputs by document 01's names, and runs that many tables begin with.
use Rattle.std.specs.Prelude.{ℕ, zero, suc, ◌+◌, List, [], ◌∷◌, ◌++◌, replicate}
use Rattle.rules.specs.Seen.{Input, input_of}

-- ── The inputs, by document 01's names ──
abbrev pub Bind : ℕ → List ℕ → Input
Bind port name = input_of 1 port 0 name []

abbrev pub CancelBind : ℕ → List ℕ → Input
CancelBind port name = input_of 2 port 0 name []

abbrev pub CarrierNotification : List ℕ → Input
CarrierNotification name = input_of 3 0 0 name []

abbrev pub CancelCarrierNotification : List ℕ → Input
CancelCarrierNotification name = input_of 4 0 0 name []

abbrev pub ProceedWithCarrier : List ℕ → ℕ → Input
ProceedWithCarrier name port = input_of 5 port 0 name []

abbrev pub CancelCarrier : List ℕ → ℕ → Input
CancelCarrier name port = input_of 6 port 0 name []

abbrev pub CarrierOut : List ℕ → ℕ → Input
CarrierOut name port = input_of 7 port 0 name []

abbrev pub CarrierIn : List ℕ → Input
CarrierIn name = input_of 8 0 0 name []

abbrev pub ChangeAccess : ℕ → ℕ → Input
ChangeAccess port value = input_of 9 port value [] []

abbrev pub ChangeServiceStatus : ℕ → ℕ → Input
ChangeServiceStatus port value = input_of 10 port value [] []

abbrev pub ReserveAtPort : ℕ → Input
ReserveAtPort port = input_of 11 port 0 [] []

abbrev pub CancelReservationAtPort : ℕ → Input
CancelReservationAtPort port = input_of 12 port 0 [] []

abbrev pub LoadStart : ℕ → Input
LoadStart port = input_of 13 port 0 [] []

abbrev pub LoadDone : ℕ → Input
LoadDone port = input_of 14 port 0 [] []

abbrev pub LoadFail : ℕ → Input
LoadFail port = input_of 15 port 0 [] []

abbrev pub IdRead : ℕ → List ℕ → Input
IdRead port name = input_of 16 port 0 name []

abbrev pub IdReadFailed : ℕ → Input
IdReadFailed port = input_of 17 port 0 [] []

abbrev pub MoveIn : ℕ → ℕ → Input
MoveIn port place = input_of 18 port place [] []

abbrev pub Open : List ℕ → Input
Open name = input_of 19 0 0 name []

abbrev pub SlotMap : List ℕ → List ℕ → Input
SlotMap name codes = input_of 20 0 0 name codes

abbrev pub AccessStart : List ℕ → Input
AccessStart name = input_of 21 0 0 name []

abbrev pub AccessEnd : List ℕ → ℕ → Input
AccessEnd name value = input_of 22 0 value name []

abbrev pub Close : List ℕ → Input
Close name = input_of 23 0 0 name []

abbrev pub UnloadStart : ℕ → Input
UnloadStart port = input_of 24 port 0 [] []

abbrev pub UnloadDone : ℕ → Input
UnloadDone port = input_of 25 port 0 [] []

abbrev pub UnloadFail : ℕ → Input
UnloadFail port = input_of 26 port 0 [] []

-- ── Names, codes, and runs that many lines begin with ──
abbrev pub A : List ℕ
A = 0x41 ∷ []

abbrev pub B : List ℕ
B = 0x42 ∷ []

-- sixteen letters are a name; seventeen are none, though their first sixteen are one
abbrev pub A16 : List ℕ
A16 = replicate 16 0x41

abbrev pub A17 : List ℕ
A17 = replicate 17 0x41

-- the codes of a slot map that wasn't read, and of one that was
abbrev pub zeros : List ℕ
zeros = replicate 25 0

abbrev pub threes : List ℕ
threes = replicate 25 3

-- n carriers are expected, none of them A or B
abbrev pub expecting : ℕ → List Input
expecting zero = []
expecting (suc n) = CarrierNotification ((0x61 + n) ∷ []) ∷ expecting n

-- a carrier is expected, at whichever port
abbrev pub announced : List ℕ → List Input
announced name = CarrierNotification name ∷ []

-- a pod that nobody announced comes to port 1, and its tag reads A
abbrev pub unannounced : List Input
unannounced = LoadStart 1 ∷ LoadDone 1 ∷ IdRead 1 A ∷ []

-- the host cancels it, and its port is READY TO UNLOAD
abbrev pub cancelled : List Input
cancelled = unannounced ++ CancelCarrier A 1 ∷ []

-- a carrier that was bound comes to port 1, and its tag agrees
abbrev pub arrived : List ℕ → List Input
arrived name = Bind 1 name ∷ LoadStart 1 ∷ LoadDone 1 ∷ IdRead 1 name ∷ []

-- it goes on to a buffer place
abbrev pub stored : List ℕ → ℕ → List Input
stored name place = arrived name ++ MoveIn 1 place ∷ []

-- A is opened at port 1; its slot map is read and agreed to; wafers are taken from it; it is done with
abbrev pub opened : List Input
opened = arrived A ++ Open A ∷ []

abbrev pub agreed : List Input
agreed = opened ++ SlotMap A threes ∷ ProceedWithCarrier A 1 ∷ []

abbrev pub accessed : List Input
accessed = agreed ++ AccessStart A ∷ []

abbrev pub finished : List Input
finished = accessed ++ AccessEnd A 0 ∷ Close A ∷ []
