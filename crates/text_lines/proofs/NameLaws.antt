-- The names of commands: what is read is what is written.
use Rattle.std.proofs.Common.{◌≡◌, ℕ, cond, ◌==◌, ◌⊎◌, List, Option, Some, refl, sym, ap, ◌∙◌, inl, inr}
use lib.Pointwise.{pointwise, bytes_decides}
use Rattle.std.proofs.lemmas.Bool.{cases_Bool, cond-false, cond-true}
use Rattle.text_lines.specs.{Commands.host_command_said, Commands.host_command_text, Commands.manager_command_said, Commands.manager_command_text, declared.commands.HostCommand.HostCommand}
use Rattle.text_lines.specs.declared.commands.ManagerCommand.{ManagerCommand}

-- a name that was chosen, or one that comes later
pub chosen : {C : Type 0} (word text : List ℕ) (c d : C) (more : Option C) → cond (pointwise ◌==◌ word text) (Some c) more ≡ Some d → ((word ≡ text) × (c ≡ d)) ⊎ (more ≡ Some d)
chosen word text c d more is = elim (cases_Bool (pointwise ◌==◌ word text)) [
  | inl e ↦ inl ((bytes_decides word text).0 e, same (sym (cond-true (pointwise ◌==◌ word text) (Some c) more e) ∙ is))
  | inr e ↦ inr (sym (cond-false (pointwise ◌==◌ word text) (Some c) more e) ∙ is)
]
  where
    same : Some c ≡ Some d → c ≡ d
    same f = cc

pub host_command_known : (command : HostCommand) → host_command_said (host_command_text command) ≡ Some command
unfolding host_command_said
host_command_known HostCommand.GetEventRecords = refl
host_command_known HostCommand.ClearEventRecords = refl
host_command_known HostCommand.GetConfiguration = refl
host_command_known HostCommand.GetExtentList = refl
host_command_known HostCommand.AddResponse = refl
host_command_known HostCommand.Release = refl

pub host_command_named : (word : List ℕ) (command : HostCommand) → host_command_said word ≡ Some command → word ≡ host_command_text command
unfolding host_command_said
host_command_named word command is =
    elim (chosen word (host_command_text HostCommand.GetEventRecords) HostCommand.GetEventRecords command _ is) [
      | inl p ↦ p.0 ∙ ap host_command_text p.1
      | inr a ↦
          elim (chosen word (host_command_text HostCommand.ClearEventRecords) HostCommand.ClearEventRecords command _ a) [
            | inl p ↦ p.0 ∙ ap host_command_text p.1
            | inr b ↦
                elim (chosen word (host_command_text HostCommand.GetConfiguration) HostCommand.GetConfiguration command _ b) [
                  | inl p ↦ p.0 ∙ ap host_command_text p.1
                  | inr d ↦
                      elim (chosen word (host_command_text HostCommand.GetExtentList) HostCommand.GetExtentList command _ d) [
                        | inl p ↦ p.0 ∙ ap host_command_text p.1
                        | inr e ↦
                            elim (chosen word (host_command_text HostCommand.AddResponse) HostCommand.AddResponse command _ e) [
                              | inl p ↦ p.0 ∙ ap host_command_text p.1
                              | inr f ↦
                                  elim (chosen word (host_command_text HostCommand.Release) HostCommand.Release command _ f) [
                                    | inl p ↦ p.0 ∙ ap host_command_text p.1
                                    | inr g ↦
                                        cc
                                  ]
                            ]
                      ]
                ]
          ]
    ]

pub manager_command_known : (command : ManagerCommand) → manager_command_said (manager_command_text command) ≡ Some command
unfolding manager_command_said
manager_command_known ManagerCommand.GetEventRecords = refl
manager_command_known ManagerCommand.ClearEventRecords = refl
manager_command_known ManagerCommand.GetInfo = refl
manager_command_known ManagerCommand.GetRegionConfiguration = refl
manager_command_known ManagerCommand.SetRegionConfiguration = refl
manager_command_known ManagerCommand.GetRegionExtentLists = refl
manager_command_known ManagerCommand.InitiateAdd = refl
manager_command_known ManagerCommand.InitiateRelease = refl
manager_command_known ManagerCommand.AddReference = refl
manager_command_known ManagerCommand.RemoveReference = refl
manager_command_known ManagerCommand.ListTags = refl

pub manager_command_named : (word : List ℕ) (command : ManagerCommand) → manager_command_said word ≡ Some command → word ≡ manager_command_text command
unfolding manager_command_said
manager_command_named word command is =
    elim (chosen word (manager_command_text ManagerCommand.GetEventRecords) ManagerCommand.GetEventRecords command _ is) [
      | inl p ↦ p.0 ∙ ap manager_command_text p.1
      | inr a ↦
          elim (chosen word (manager_command_text ManagerCommand.ClearEventRecords) ManagerCommand.ClearEventRecords command _ a) [
            | inl p ↦ p.0 ∙ ap manager_command_text p.1
            | inr b ↦
                elim (chosen word (manager_command_text ManagerCommand.GetInfo) ManagerCommand.GetInfo command _ b) [
                  | inl p ↦ p.0 ∙ ap manager_command_text p.1
                  | inr d ↦
                      elim (chosen word (manager_command_text ManagerCommand.GetRegionConfiguration) ManagerCommand.GetRegionConfiguration command _ d) [
                        | inl p ↦ p.0 ∙ ap manager_command_text p.1
                        | inr e ↦
                            elim (chosen word (manager_command_text ManagerCommand.SetRegionConfiguration) ManagerCommand.SetRegionConfiguration command _ e) [
                              | inl p ↦ p.0 ∙ ap manager_command_text p.1
                              | inr f ↦
                                  elim (chosen word (manager_command_text ManagerCommand.GetRegionExtentLists) ManagerCommand.GetRegionExtentLists command _ f) [
                                    | inl p ↦ p.0 ∙ ap manager_command_text p.1
                                    | inr g ↦
                                        elim (chosen word (manager_command_text ManagerCommand.InitiateAdd) ManagerCommand.InitiateAdd command _ g) [
                                          | inl p ↦ p.0 ∙ ap manager_command_text p.1
                                          | inr h ↦
                                              elim (chosen word (manager_command_text ManagerCommand.InitiateRelease) ManagerCommand.InitiateRelease command _ h) [
                                                | inl p ↦ p.0 ∙ ap manager_command_text p.1
                                                | inr j ↦
                                                    elim (chosen word (manager_command_text ManagerCommand.AddReference) ManagerCommand.AddReference command _ j) [
                                                      | inl p ↦ p.0 ∙ ap manager_command_text p.1
                                                      | inr k ↦
                                                          elim (chosen word (manager_command_text ManagerCommand.RemoveReference) ManagerCommand.RemoveReference command _ k) [
                                                            | inl p ↦ p.0 ∙ ap manager_command_text p.1
                                                            | inr l ↦
                                                                elim (chosen word (manager_command_text ManagerCommand.ListTags) ManagerCommand.ListTags command _ l) [
                                                                  | inl p ↦ p.0 ∙ ap manager_command_text p.1
                                                                  | inr m ↦
                                                                      cc
                                                                ]
                                                          ]
                                                    ]
                                              ]
                                        ]
                                  ]
                            ]
                      ]
                ]
          ]
    ]
